use Rattle.std.proofs.Common.{◌≡◌, ℕ, ◌<◌, cond, ltb, None, Ok, Err, Result, sym, ap, ◌∙◌, arith}
use Rattle.std.proofs.lemmas.Bool.{cond-true, lt-ltb}
use Rattle.layout.specs.Records.{nodes, record_at}
use Rattle.layout.specs.Types.{data_type}
use Rattle.layout.proofs.Typed.{kind_told}
use Rattle.admission.proofs.Sound.{sound_node}
use Rattle.image.specs.Read.{slot_within, typed_slot}
use Rattle.image.specs.Values.{Value, bytes_place, handed_out, value_at}
use Rattle.image.proofs.Children.{node_there, record_read}
use Rattle.image.proofs.Levels.{deep_enough}
use Rattle.image.proofs.Readable.{row_readable}
use Rattle.image.proofs.Told.{value_typed}
use Rattle.image.proofs.place.Image.slot.Goals as goal

pub unreachable-requires : goal.unreachable-requires
unreachable-requires c =
    let bytes = c.args.self.now.bytes.now in
    let found = sym c.in_ok-record.ensures.ok_part ∙ c.node.ensures in
    let typed = sound_node bytes c.args.self.now.sound c.args.node (node_there bytes c.args.node c.in_ok-record.record found) in
    let none : None ≡ data_type (record_at bytes c.args.node) =
    c.in_default.ensures ∙ ap data_type (record_read bytes c.args.node c.in_ok-record.record found) in
    let z : ◌≡◌ {A = ℕ} 0 1 = cc (none, typed.1) in
    omega arith

pub value-requires : goal.value-requires
value-requires c =
    let bytes = c.args.self.now.bytes.now in
    let r = c.in_ok-record.record in
    let found = sym c.in_ok-record.ensures.ok_part ∙ c.node.ensures in
    let there = node_there bytes c.args.node r found in
    let read = record_read bytes c.args.node r found in
    let held : c.args.row < r.rows = omega arith in
    let can = row_readable bytes c.args.self.now.sound c.args.node c.args.row r c.in-Some.t read c.in-Some.ensures there held in
    record { bit = can.0; readable = can.1 }

pub returns-then-row-from-clause-levels : goal.returns-then-row-from-clause-levels
returns-then-row-from-clause-levels c = deep_enough c.args.self.now.bytes.now c.args.self.now.sound c.args.node c.args.row

pub returns-clause-levels : goal.returns-clause-levels
returns-clause-levels c = deep_enough c.args.self.now.bytes.now c.args.self.now.sound c.args.node c.args.row

pub returns-clause-answer : goal.returns-clause-answer
returns-clause-answer c =
    let bytes = c.args.self.now.bytes.now in
    let node = c.args.node in
    let row = c.args.row in
    let r = c.in_ok-record.record in
    let t = c.in-Some.t in
    let found = sym c.in_ok-record.ensures.ok_part ∙ c.node.ensures in
    let there = node_there bytes node r found in
    let read = record_read bytes node r found in
    let held : row < (record_at bytes node).rows = omega (arith, ap (λ r. r.rows) read) in
    let value =
    c.value.ensures (slot_within 15 bytes)
    ∙ ap (λ (k : ℕ). handed_out k (bytes_place t bytes r row) (typed_slot t bytes r (slot_within 15 bytes) row)) (kind_told r t c.in-Some.ensures)
    ∙ sym (value_typed bytes node row r t read c.in-Some.ensures) in
    ap {B = Result Value ℕ} (λ (v : Value). Ok v) value
    ∙ sym (cond-true (ltb node (nodes bytes)) (cond (ltb row (record_at bytes node).rows) (Ok (value_at bytes node row)) (Err 17)) (Err 13) (lt-ltb node (nodes bytes) there)
    ∙ cond-true (ltb row (record_at bytes node).rows) (Ok (value_at bytes node row)) (Err 17) (lt-ltb row (record_at bytes node).rows held))
