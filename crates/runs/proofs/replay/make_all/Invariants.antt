use Rattle.std.proofs.Common.{◌≡◌, ℕ, ◌^◌, ◌<◌, List, length, map, take, slice_index}
use Rattle.columns.specs.Open.{OthersStay}
use Rattle.runs.specs.Calls.{begin_rows, reply_of, requests_of, stage_run, taken_entries}
use Rattle.runs.specs.Lasting.{begun_state}
use Rattle.runs.specs.Open.{opened}
use Rattle.runs.specs.Requests.{Request}
use Rattle.runs.proofs.Replaying.{Reached, begin_agrees}
use Rattle.runs.proofs.replay.make_all.Given as goal

abbrev pub invariant-loop-made : goal.invariant-loop-made
invariant-loop-made g l =
    let before : List ℕ = l.initial.entries in
    let requests : List Request = requests_of l.trace before l.initial.work l.initial.answers in
    record {
      places : length l.answers ≡ length l.initial.answers;
      words : (k : ℕ) → slice_index before k < 2 ^ 64;
      reached : Reached (g.S.BuildHasher.one l.state) (g.S.HashState.seeded l.state) (begun_state (begin_rows l.trace before) before) (taken_entries l.trace before) requests l.initial.answers
          (begin_agrees _ _ l.trace before) l.made (stage_run l.stage l.entries) l.answers;
      stays : OthersStay (opened (take l.made requests) (map reply_of (take l.made l.answers))) l.initial.work l.work;
    }
