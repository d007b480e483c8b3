use Rattle.std.proofs.Common.{arith, rules}
use Rattle.vectors.proofs.rows.check_numbers.Goals as goal

pub hash_column-requires : goal.hash_column-requires
hash_column-requires g c =
    let told = c.in-Some-need_of.ensures in
    record {
      there = told.there;
      rows = told.rows;
      entries = search rules;
      few = omega (arith, told.count, told.few);
      room = omega (arith, told.need, c.in_ok-work.ensures.len, c.as_mut_slice-3.ensures.len);
    }
