-- The kinds of columns, and the type of a column, by its KIND, its P and, of a dictionary, its B.
use Rattle.std.specs.Prelude.{ℕ, cond, Some, None, Option, ◌==◌, nat_le}
use Rattle.std.specs.Option.{option_map}
use Rattle.layout.specs.declared.bytes.Width.{Width}
use Rattle.layout.specs.declared.bytes.Width.TheVariants.{One, Two, Four, Eight}
use Rattle.layout.specs.declared.kind.Kind.{Kind}
use Rattle.layout.specs.declared.kind.Kind.TheVariants as kind
use Rattle.layout.specs.declared.record.Record.{Record}
use Rattle.layout.specs.declared.data_type.DataType.{DataType}
use Rattle.layout.specs.declared.data_type.DataType.TheVariants.{Null, Boolean, Number, Float, Utf8, Binary, FixedSizeBinary, View, Dictionary, Struct, List, ListView, Map, FixedSizeList, RunEnd}

-- the KIND of each kind
abbrev pub kind_number : Kind → ℕ
kind_number kind.Null = 1
kind_number kind.Boolean = 2
kind_number kind.Number = 3
kind_number kind.Float = 4
kind_number kind.Utf8 = 6
kind_number kind.Binary = 7
kind_number kind.FixedSizeBinary = 8
kind_number kind.View = 9
kind_number kind.Dictionary = 10
kind_number kind.Struct = 11
kind_number kind.List = 12
kind_number kind.ListView = 13
kind_number kind.Map = 14
kind_number kind.FixedSizeList = 15
kind_number kind.RunEnd = 16

-- a value where a condition holds
abbrev pub given : {A : Type 0} → mathlib.Core.Bool.Bool → Option A → Option A
given b x = cond b x None

-- P as a width, where it is 1, 2, 4 or 8 and at least so much
abbrev pub width : ℕ → ℕ → Option Width
width p least =
    given (nat_le least p)
    (cond (p == 1) (Some One)
    (cond (p == 2) (Some Two)
    (cond (p == 4) (Some Four)
    (cond (p == 8) (Some Eight) None))))

-- the table of the kinds, a line for each
abbrev pub data_type : Record → Option DataType
data_type r =
    cond (r.kind == kind_number kind.Null) (Some Null)
    (cond (r.kind == kind_number kind.Boolean) (Some Boolean)
    (cond (r.kind == kind_number kind.Number) (option_map Number (width r.p 1))
    (cond (r.kind == kind_number kind.Float) (option_map Float (width r.p 2))
    (cond (r.kind == kind_number kind.Utf8) (option_map Utf8 (width r.p 4))
    (cond (r.kind == kind_number kind.Binary) (option_map Binary (width r.p 4))
    (cond (r.kind == kind_number kind.FixedSizeBinary) (given (nat_le r.p 65535) (Some (FixedSizeBinary r.p)))
    (cond (r.kind == kind_number kind.View) (Some View)
    (cond (r.kind == kind_number kind.Dictionary) (given (nat_le r.b 1) (option_map (λ w. Dictionary w (r.b == 1)) (width r.p 1)))
    (cond (r.kind == kind_number kind.Struct) (Some Struct)
    (cond (r.kind == kind_number kind.List) (option_map List (width r.p 4))
    (cond (r.kind == kind_number kind.ListView) (option_map ListView (width r.p 4))
    (cond (r.kind == kind_number kind.Map) (Some Map)
    (cond (r.kind == kind_number kind.FixedSizeList) (given (nat_le r.p 65535) (Some (FixedSizeList r.p)))
    (cond (r.kind == kind_number kind.RunEnd) (option_map RunEnd (width r.p 2))
    None))))))))))))))

-- the kind of each type
abbrev pub kind_of : DataType → Kind
kind_of Null = kind.Null
kind_of Boolean = kind.Boolean
kind_of (Number w) = kind.Number
kind_of (Float w) = kind.Float
kind_of (Utf8 w) = kind.Utf8
kind_of (Binary w) = kind.Binary
kind_of (FixedSizeBinary p) = kind.FixedSizeBinary
kind_of View = kind.View
kind_of (Dictionary w signed) = kind.Dictionary
kind_of Struct = kind.Struct
kind_of (List w) = kind.List
kind_of (ListView w) = kind.ListView
kind_of Map = kind.Map
kind_of (FixedSizeList p) = kind.FixedSizeList
kind_of (RunEnd w) = kind.RunEnd
