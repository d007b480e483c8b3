use Rattle.std.proofs.Common.{◌-◌, ◌^◌, arith, lit<}
use Rattle.tables.specs.Hashes.{CombinedApart}
use Rattle.tables.proofs.hashes.words_combine_apart.Goals as goal

apart : CombinedApart
apart law c =
    let published = law 0xaf63_dc4c_8601_ec8c 0x8594_4171_f739_67e8 c (lit< tt) (lit< tt) in
    let ends = law (2 ^ 64 - 1) 0 c (lit< tt) (lit< tt) in (
      λ e. omega (arith, published.0 e),
      λ e. omega (arith, published.1 e),
      λ e. omega (arith, ends.0 e),
      λ e. omega (arith, ends.1 e),
    )

pub returns-clause-apart : goal.returns-clause-apart
returns-clause-apart c = apart
