use Rattle.std.proofs.Common.{refl}
use Rattle.hash_state.specs.Sip.{compress, compressed, finalize, initial, le_number, parsed, sip_round, siphash, words}
use Rattle.tables.specs.Hashes.{Combined, EntryNumbers, FloatBits, JoinedWrites, LaterValues, LongMessages, PublishedFnv, Told}
use Rattle.tables.proofs.hashes.hashes_hold.Goals as goal

messages : LongMessages
unfolding sip_round initial compress compressed finalize le_number words parsed siphash
messages = refl

fnv : PublishedFnv
fnv = refl

combined : Combined
combined = refl

later : LaterValues
later = refl

entries : EntryNumbers
entries = refl

floats : FloatBits
floats = refl

told : Told
told = refl

joined : JoinedWrites
joined = refl

pub returns-clause-messages : goal.returns-clause-messages
returns-clause-messages c = messages

pub returns-clause-fnv : goal.returns-clause-fnv
returns-clause-fnv c = fnv

pub returns-clause-combined : goal.returns-clause-combined
returns-clause-combined c = combined

pub returns-clause-later : goal.returns-clause-later
returns-clause-later c = later

pub returns-clause-entries : goal.returns-clause-entries
returns-clause-entries c = entries

pub returns-clause-floats : goal.returns-clause-floats
returns-clause-floats c = floats

pub returns-clause-told : goal.returns-clause-told
returns-clause-told c = told

pub returns-clause-joined : goal.returns-clause-joined
returns-clause-joined c = joined
