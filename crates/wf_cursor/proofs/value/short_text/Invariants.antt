use Rattle.std.proofs.Common.{◌≡◌, ◌≤◌, ◌++◌, length, drop}
use Rattle.std.specs.List.{take_while}
use Rattle.wf_model.specs.Txt.{is_text_char}
use Rattle.wf_cursor.proofs.value.short_text.Given as goal

abbrev pub invariant-loop-byte : goal.invariant-loop-byte
invariant-loop-byte l = record {
  same : l.text ++ take_while is_text_char (drop l.byte-index l.byte-items) ≡ take_while is_text_char l.byte-items;
  items : l.byte-items ≡ drop 1 l.token;
  few : length l.text ≤ 64;
}
