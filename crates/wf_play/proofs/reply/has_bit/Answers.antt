use Rattle.std.proofs.Common.{rules, arith, ◌≡◌, ◌<◌, ◌==◌, ◌^◌, ◌∙◌, sym, ap, nat_lt, false}
use Rattle.std.specs.Int.{bit_at}
use Rattle.std.proofs.lemmas.Nat.Bits.{bit_at_above}
use Rattle.wf_play.proofs.reply.has_bit.Goals as goal

pub returns-else-at-lt8 : goal.returns-else-at-lt8
returns-else-at-lt8 c =
    let above : bit_at c.args.bits c.args.at ≡ 0 =
    bit_at_above c.args.bits 8 c.args.at (omega (arith, c.ranges.bits.fits)) (omega (arith, c.if-at-lt8.false)) in
    let not_below : nat_lt c.args.at 8 ≡ false = search (rules, c.if-at-lt8.false) in
    not_below ∙ sym (ap (λ n. n == 1) above)
