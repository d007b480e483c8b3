use Rattle.std.proofs.Common.{ltb-true, sym, ap, ◌∙◌, ◌==◌, arith}
use Rattle.layout.specs.Records.{nodes, record_at}
use Rattle.runs.specs.Runs.{asked, column_of, lent, list_of, shape_run}
use Rattle.runs.specs.State.{State}
use Rattle.runs.proofs.Steps.{goes_on, rows_meeting, rows_there, words_led}
use Rattle.runs.proofs.Going.{column_goes, column_passed}
use Rattle.runs.proofs.column.lead_rows.Goals as goal

pub hash_column-requires : goal.hash_column-requires
hash_column-requires g c =
    let a = c.args in
    let size = c.in_ok-size in
    let l = lent a.entries.now a.work.now a.claim.account.now in
    let none = column_passed a.run.rows a.run.count (column_of a.selection) (list_of a.selection.list) l size.size.rows size.size.need size.ensures.rows size.ensures.need size.ensures.fault c.in_ok-judge_rows.ensures in
    let goes = column_goes a.run.rows a.run.count (column_of a.selection) (list_of a.selection.list) l (sym none) in
    let met = rows_meeting (record_at a.selection.image.now.bytes.now a.selection.node).rows a.selection.list ∙ goes.as_many in
    record {
      there = ltb-true a.selection.node (nodes a.selection.image.now.bytes.now) goes.there;
      rows = rows_there (record_at a.selection.image.now.bytes.now a.selection.node).rows a.selection.list goes.below;
      entries = omega (arith, met, goes.room);
      few = omega (arith, met);
      room = omega (arith, goes.work);
    }

pub returns-clause-entries : goal.returns-clause-entries
returns-clause-entries g c =
    let a = c.args in
    let size = c.in_ok-size in
    let l = lent a.entries.now a.work.now a.claim.account.now in
    let none = column_passed a.run.rows a.run.count (column_of a.selection) (list_of a.selection.list) l size.size.rows size.size.need size.ensures.rows size.ensures.need size.ensures.fault c.in_ok-judge_rows.ensures in
    let goes = column_goes a.run.rows a.run.count (column_of a.selection) (list_of a.selection.list) l (sym none) in
    c.hash_column.ensures.entries
    ∙ words_led _ _ a.selection.image.now.bytes.now a.selection.node a.selection.list (a.run.count == 0) a.run.rows a.entries.now goes.as_many
    ∙ ap (λ (s : State). s.words) (sym (goes_on _ _ (shape_run a.run a.entries.now) (asked a.selection a.entries.now a.work.now a.claim.account.now) none))
