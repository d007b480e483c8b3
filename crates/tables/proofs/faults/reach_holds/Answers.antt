use Rattle.std.proofs.Common.{refl}
use Rattle.tables.specs.Reach.{Bitmaps, Buffers, ChildRowsReached, Keys, ListViews, Offsets, OffsetsFromStart, RunEnds, Runs, Texts, Views}
use Rattle.tables.proofs.faults.reach_holds.Goals as goal

buffers : Buffers
buffers = refl

bitmaps : Bitmaps
bitmaps = refl

offsets : Offsets
offsets = refl

start : OffsetsFromStart
start = refl

run_ends : RunEnds
run_ends = refl

runs : Runs
runs = refl

texts : Texts
texts = refl

keys : Keys
keys = refl

list_views : ListViews
list_views = refl

children : ChildRowsReached
children = refl

views : Views
views = refl

pub returns-clause-buffers : goal.returns-clause-buffers
returns-clause-buffers c = buffers

pub returns-clause-bitmaps : goal.returns-clause-bitmaps
returns-clause-bitmaps c = bitmaps

pub returns-clause-offsets : goal.returns-clause-offsets
returns-clause-offsets c = offsets

pub returns-clause-start : goal.returns-clause-start
returns-clause-start c = start

pub returns-clause-run_ends : goal.returns-clause-run_ends
returns-clause-run_ends c = run_ends

pub returns-clause-runs : goal.returns-clause-runs
returns-clause-runs c = runs

pub returns-clause-texts : goal.returns-clause-texts
returns-clause-texts c = texts

pub returns-clause-keys : goal.returns-clause-keys
returns-clause-keys c = keys

pub returns-clause-list_views : goal.returns-clause-list_views
returns-clause-list_views c = list_views

pub returns-clause-children : goal.returns-clause-children
returns-clause-children c = children

pub returns-clause-views : goal.returns-clause-views
returns-clause-views c = views
