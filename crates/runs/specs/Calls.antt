-- What calls ask for, and what their answers say.
use Rattle.std.specs.Prelude.{◌≡◌, ℕ, suc, min, Bool, true, false, cond, List, [], ◌∷◌, map, length, take, ◌==◌, slice_index_or, MatchOption, Option}
use Rattle.std.specs.Borrow.{Bor}
use Rattle.hash_state.specs.Writes.{Write}
use Rattle.image.specs.declared.place.Image.{Image}
use Rattle.runs.specs.declared.call.Answer.{Answer}
use Rattle.runs.specs.declared.call.Answer.TheVariants.{Accepted, Refused, Row}
use Rattle.runs.specs.declared.call.Call.{Call}
use Rattle.runs.specs.declared.call.Call.TheVariants.{Column, Keep, Read}
use Rattle.runs.specs.declared.call.Lent.{Lent}
use Rattle.runs.specs.declared.call.Stage.{Stage}
use Rattle.runs.specs.declared.call.Stage.TheVariants.{New, Begun}
use Rattle.runs.specs.declared.call.Trace.{Trace}
use Rattle.runs.specs.Requests.{Request, Reply, column, keep, read, accepted, refused, row_read}
use Rattle.runs.specs.Ledger.{Ledger, next}
use Rattle.runs.specs.State.{State, step, told}
use Rattle.runs.specs.Runs.{begun_run, fault_number, list_of, new_run}

-- a run that is new or begun, with the entries that it is lent
abbrev pub stage_run : Stage → List ℕ → State
stage_run (New run) words = new_run run words
stage_run (Begun run) words = begun_run run words

-- what an answer says
abbrev pub reply_of : Answer → Reply
reply_of Accepted = accepted
reply_of (Refused fault) = refused (fault_number fault)
reply_of (Row told) = row_read told.number told.count

-- the bytes of the images
abbrev pub images_bytes : List (Bor Image) → List (List ℕ)
images_bytes images = map (λ image. image.now.bytes.now) images

-- the bytes of the image at a place: none, which are the empty image's, where there is no such place
abbrev pub bytes_at : List (Bor Image) → ℕ → List ℕ
bytes_at images k = slice_index_or (images_bytes images) k []

-- a call is lent no more than there is
abbrev pub lent_of : ℕ → ℕ → Lent → Lent
lent_of entries work lent = record { entries = min lent.entries entries; work = min lent.work work; claimed = lent.claimed }

-- what a call asks for, of so many words of entries and work in all
abbrev pub request_of : List (Bor Image) → ℕ → ℕ → Call → Request
request_of images entries work (Column image node list lent) =
    column (record { bytes = bytes_at images image; node = node }) (list_of list) (lent_of entries work lent)
request_of images entries work (Keep list lent) = keep list.now (lent_of entries work lent)
request_of images entries work (Read row room) = read row (min room entries)

-- a read of a run that has accepted no column is none of the calls: a program that makes it does not build
abbrev pub is_misuse : ℕ → Request → Bool
is_misuse count (column c list lent) = false
is_misuse count (keep list lent) = false
is_misuse count (read k entries) = count == 0

-- how many of the requests are made: those before the first misuse
abbrev pub made : Ledger → List Request → ℕ
made l [] = 0
made l (q ∷ rest) = cond (is_misuse (length l.columns) q) 0 (suc (made (next l q) rest))

-- a call that is made is answered what its request is told; a misuse is not answered
abbrev pub Answered : State → Request → Option Answer → Type 0
Answered s q answer =
    MatchOption answer (is_misuse s.count q ≡ true)
    (λ a. (is_misuse s.count q ≡ false) × (reply_of a ≡ told s q))

-- and it leaves what its request comes to; a misuse changes nothing
abbrev pub Made : (List Write → ℕ) → (ℕ → List Write → ℕ) → State → Request → Option Answer → State → Type 0
Made ONE SEED s q answer s' = Answered s q answer × (s' ≡ cond (is_misuse s.count q) s (step ONE SEED s q))

-- how many rows begin is asked for: no more than there are entries
abbrev pub begin_rows : Trace → List ℕ → ℕ
begin_rows trace entries = min trace.rows (length entries)

-- the entries that it takes
abbrev pub taken_entries : Trace → List ℕ → List ℕ
taken_entries trace entries = take (begin_rows trace entries) entries

-- what the calls of a trace ask for over these words, as many as there are places for answers
abbrev pub requests_of : Trace → List ℕ → List ℕ → List Answer → List Request
requests_of trace entries work answers =
    map (request_of trace.images.now (length entries) (length work)) (take (min (length trace.calls.now) (length answers)) trace.calls.now)
