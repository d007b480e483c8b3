use Rattle.std.proofs.Common.{lit<}
use Rattle.hash_state.specs.Fnv.{offset_basis}
use Rattle.hash_state.specs.Hashing.{fnv1a_below}
use Rattle.hash_state.specs.Rounds.{finalize_below}
use Rattle.hash_state.specs.Sip.{siphash}
use Rattle.hash_state.specs.Writes.{joined}
use Rattle.tables.specs.Rules.{BelowUnderFnv, BelowUnderSip}
use Rattle.tables.specs.States.{fnv_one, fnv_seed, sip_one, sip_seed}
use Rattle.tables.proofs.rules.states_stay_below.Goals as goal

fnv : BelowUnderFnv
fnv law = law fnv_one fnv_seed (λ ws. fnv1a_below (joined ws) offset_basis (lit< tt)) (λ s below ws. fnv1a_below (joined ws) s below)

sip : BelowUnderSip
unfolding siphash
sip law = law sip_one sip_seed (λ ws. finalize_below _) (λ s below ws. finalize_below _)

pub returns-clause-fnv : goal.returns-clause-fnv
returns-clause-fnv c = fnv

pub returns-clause-sip : goal.returns-clause-sip
returns-clause-sip c = sip
