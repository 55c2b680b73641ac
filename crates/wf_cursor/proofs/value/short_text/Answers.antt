use Rattle.std.proofs.Common.{arith, rules, length, ◌≡◌, ◌+◌, take, drop, ◌-◌, ap, ◌∙◌, length-append}
use Rattle.wf_model.specs.Txt.{is_text_char}
use Rattle.wf_cursor.proofs.Characters.{whole_more}
use Rattle.wf_cursor.proofs.value.short_text.Goals as goal

pub loop-byte-preserved : goal.loop-byte-preserved
loop-byte-preserved c = record {
  same = whole_more is_text_char (take (length c.args.token.now - c.min.result) (drop c.min.result c.args.token.now)) c.loop-byte.byte-index c.loop-byte.text c.push.new.self _ c.loop-byte-test.true (search rules) c.push.ensures c.loop-byte.invariant.same;
  items = c.loop-byte.invariant.items;
  few = (let longer : length c.push.new.self ≡ length c.loop-byte.text + 1 = ap length c.push.ensures ∙ length-append c.loop-byte.text _ in omega arith);
}
