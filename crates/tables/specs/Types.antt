-- The types of columns and what they say of a node, as docs/FORMAT.md lists them.
use Rattle.std.specs.Prelude.{◌≡◌, ℕ, true, false, List as ListOf, [], ◌∷◌, map, replicate, Some, None, Option}
use Rattle.layout.specs.declared.bytes.Width.TheVariants.{One, Two, Four, Eight}
use Rattle.layout.specs.declared.data_type.DataType.{DataType}
use Rattle.layout.specs.declared.data_type.DataType.TheVariants.{Null, Boolean, Number, Float, Utf8, Binary, FixedSizeBinary, View, Dictionary, Struct, List, ListView, Map, FixedSizeList, RunEnd}
use Rattle.layout.specs.declared.data_type.Table.TheVariants.{Unread, Children, Pairs}
use Rattle.layout.specs.Bytes.{negative, wide}
use Rattle.layout.specs.Nodes.{bitmap_bytes, child_count, reads_nulls, table}
use Rattle.layout.specs.Types.{data_type, kind_number, kind_of}
use Rattle.tables.specs.Images.{plain}

-- the types of a kind with P 0, 1, 2, 4, 8 and 16
abbrev pub by_p : ℕ → ListOf (Option DataType)
by_p kind = map (λ p. data_type (record (plain kind) { p = p })) (0 ∷ 1 ∷ 2 ∷ 4 ∷ 8 ∷ 16 ∷ [])

-- the kinds 0 to 17: 0, 5 and 17 are none; those without a P have their type at each; the others at the widths that the table of kinds lists, or at sizes
abbrev pub Kinds : Type 0
Kinds =
    map by_p (0 ∷ 1 ∷ 2 ∷ 3 ∷ 4 ∷ 5 ∷ 6 ∷ 7 ∷ 8 ∷ 9 ∷ 10 ∷ 11 ∷ 12 ∷ 13 ∷ 14 ∷ 15 ∷ 16 ∷ 17 ∷ [])
    ≡ (replicate 6 None
    ∷ replicate 6 (Some Null)
    ∷ replicate 6 (Some Boolean)
    ∷ (None ∷ Some (Number One) ∷ Some (Number Two) ∷ Some (Number Four) ∷ Some (Number Eight) ∷ None ∷ [])
    ∷ (None ∷ None ∷ Some (Float Two) ∷ Some (Float Four) ∷ Some (Float Eight) ∷ None ∷ [])
    ∷ replicate 6 None
    ∷ (None ∷ None ∷ None ∷ Some (Utf8 Four) ∷ Some (Utf8 Eight) ∷ None ∷ [])
    ∷ (None ∷ None ∷ None ∷ Some (Binary Four) ∷ Some (Binary Eight) ∷ None ∷ [])
    ∷ map (λ p. Some (FixedSizeBinary p)) (0 ∷ 1 ∷ 2 ∷ 4 ∷ 8 ∷ 16 ∷ [])
    ∷ replicate 6 (Some View)
    ∷ (None ∷ Some (Dictionary One false) ∷ Some (Dictionary Two false) ∷ Some (Dictionary Four false) ∷ Some (Dictionary Eight false) ∷ None ∷ [])
    ∷ replicate 6 (Some Struct)
    ∷ (None ∷ None ∷ None ∷ Some (List Four) ∷ Some (List Eight) ∷ None ∷ [])
    ∷ (None ∷ None ∷ None ∷ Some (ListView Four) ∷ Some (ListView Eight) ∷ None ∷ [])
    ∷ replicate 6 (Some Map)
    ∷ map (λ p. Some (FixedSizeList p)) (0 ∷ 1 ∷ 2 ∷ 4 ∷ 8 ∷ 16 ∷ [])
    ∷ (None ∷ None ∷ Some (RunEnd Two) ∷ Some (RunEnd Four) ∷ Some (RunEnd Eight) ∷ None ∷ [])
    ∷ replicate 6 None
    ∷ [])

-- the greatest size and one more, of kinds 8 and 15
abbrev pub Sizes : Type 0
Sizes =
    (data_type (record (plain 8) { p = 65535 })
    ∷ data_type (record (plain 8) { p = 65536 })
    ∷ data_type (record (plain 15) { p = 65535 })
    ∷ data_type (record (plain 15) { p = 65536 })
    ∷ [])
    ≡ (Some (FixedSizeBinary 65535) ∷ None ∷ Some (FixedSizeList 65535) ∷ None ∷ [])

-- B of a dictionary: 0 without a sign, 1 with one, 2 is none
abbrev pub KeySigns : Type 0
KeySigns =
    map (λ b. data_type (record (plain 10) { p = 4; b = b })) (0 ∷ 1 ∷ 2 ∷ [])
    ≡ (Some (Dictionary Four false) ∷ Some (Dictionary Four true) ∷ None ∷ [])

-- a type of each kind
abbrev pub types : ListOf DataType
types =
    Null
    ∷ Boolean
    ∷ Number Four
    ∷ Float Four
    ∷ Utf8 Four
    ∷ Binary Four
    ∷ FixedSizeBinary 4
    ∷ View
    ∷ Dictionary Four true
    ∷ Struct
    ∷ List Four
    ∷ ListView Four
    ∷ Map
    ∷ FixedSizeList 4
    ∷ RunEnd Four
    ∷ []

-- their numbers
abbrev pub KindNumbers : Type 0
KindNumbers = map (λ t. kind_number (kind_of t)) types ≡ (1 ∷ 2 ∷ 3 ∷ 4 ∷ 6 ∷ 7 ∷ 8 ∷ 9 ∷ 10 ∷ 11 ∷ 12 ∷ 13 ∷ 14 ∷ 15 ∷ 16 ∷ [])

-- the table of each: none for kinds 1 to 8, data buffers for views, and the children that the table of kinds lists
abbrev pub Tables : Type 0
Tables =
    map table types
    ≡ (Unread
    ∷ Unread
    ∷ Unread
    ∷ Unread
    ∷ Unread
    ∷ Unread
    ∷ Unread
    ∷ Pairs 65535
    ∷ Children 1 1
    ∷ Children 0 255
    ∷ Children 1 1
    ∷ Children 1 1
    ∷ Children 2 2
    ∷ Children 1 1
    ∷ Children 1 1
    ∷ [])

-- how many children a node has of each type, and one of no type, where its table has three entries: the data buffers of views are none
abbrev pub ChildCounts : Type 0
ChildCounts =
    map (λ t. child_count t (record (plain 0) { cnt = 3 })) (None ∷ map (λ t. Some t) types)
    ≡ (0 ∷ 0 ∷ 0 ∷ 0 ∷ 0 ∷ 0 ∷ 0 ∷ 0 ∷ 0 ∷ 3 ∷ 3 ∷ 3 ∷ 3 ∷ 3 ∷ 3 ∷ 3 ∷ [])

-- NULLS is read of each but kinds 1 and 16
abbrev pub NullsRead : Type 0
NullsRead =
    map reads_nulls types
    ≡ (false ∷ true ∷ true ∷ true ∷ true ∷ true ∷ true ∷ true ∷ true ∷ true ∷ true ∷ true ∷ true ∷ true ∷ false ∷ [])

-- how many bytes a width has
abbrev pub WidthBytes : Type 0
WidthBytes = map wide (One ∷ Two ∷ Four ∷ Eight ∷ []) ≡ (1 ∷ 2 ∷ 4 ∷ 8 ∷ [])

-- the greatest number without a sign, the sign bit alone, one above it, and the greatest of all, at each width
abbrev pub Signs : Type 0
Signs =
    (map (negative One) (0 ∷ 0x7f ∷ 0x80 ∷ 0x81 ∷ 0xff ∷ [])
    ∷ map (negative Two) (0xff ∷ 0x7fff ∷ 0x8000 ∷ 0x8001 ∷ 0xffff ∷ [])
    ∷ map (negative Four) (0xffff ∷ 0x7fff_ffff ∷ 0x8000_0000 ∷ 0x8000_0001 ∷ 0xffff_ffff ∷ [])
    ∷ map (negative Eight) (0xffff_ffff ∷ 0x7fff_ffff_ffff_ffff ∷ 0x8000_0000_0000_0000 ∷ 0x8000_0000_0000_0001 ∷ 0xffff_ffff_ffff_ffff ∷ [])
    ∷ [])
    ≡ replicate 4 (false ∷ false ∷ true ∷ true ∷ true ∷ [])

-- the bytes of a bitmap of no bit, of 1, 7, 8, 9, 16 and 17 bits
abbrev pub BitmapBytes : Type 0
BitmapBytes = map bitmap_bytes (0 ∷ 1 ∷ 7 ∷ 8 ∷ 9 ∷ 16 ∷ 17 ∷ []) ≡ (0 ∷ 1 ∷ 1 ∷ 1 ∷ 2 ∷ 2 ∷ 3 ∷ [])
