-- Outputs that are written one by one.
use Rattle.std.proofs.Common.{◌≡◌, ℕ, zero, suc, ◌+◌, ◌<◌, List, [], ◌∷◌, length, take, get_or, set, sym, ◌∙◌, ap, arith}
use Rattle.wf_model.specs.declared.value.Val.{Val}
use Rattle.wf_model.specs.declared.outer.Output.{Output}
use Rattle.wf_model.specs.declared.outer.Entry.{Entry}
use Rattle.wf_semantics.specs.Effects.{after_outputs, after_outer, after_entries}

-- one output more
outputs_suc : (os : List Output) (i : ℕ) (o : Output) (store : List Val) → i < length os → o ≡ get_or os i o → after_outputs (take (suc i) os) store ≡ set (after_outputs (take i os) store) o.var.0 o.val
outputs_suc [] i o store lt is = absurd (omega arith)
outputs_suc (x ∷ xs) zero o store lt is = ap (λ (y : Output). set store y.var.0 y.val) (sym is)
outputs_suc (x ∷ xs) (suc i) o store lt is = outputs_suc xs i o (set store x.var.0 x.val) (omega arith) is

pub outputs_more : (os : List Output) (i : ℕ) (o : Output) (store : List Val) → i < length os → o ≡ get_or os i o → after_outputs (take (i + 1) os) store ≡ set (after_outputs (take i os) store) o.var.0 o.val
outputs_more os i o store lt is = let e : i + 1 ≡ suc i = omega arith in ap (λ n. after_outputs (take n os) store) e ∙ outputs_suc os i o store lt is

-- one entry more
entries_suc : (entries : List Entry) (i : ℕ) (x : Entry) (store : List Val) → i < length entries → x ≡ get_or entries i x → after_entries (take (suc i) entries) store ≡ after_outer x.outer (after_entries (take i entries) store)
entries_suc [] i x store lt is = absurd (omega arith)
entries_suc (y ∷ ys) zero x store lt is = ap (λ (z : Entry). after_outer z.outer store) (sym is)
entries_suc (y ∷ ys) (suc i) x store lt is = entries_suc ys i x (after_outer y.outer store) (omega arith) is

pub entries_more : (entries : List Entry) (i : ℕ) (x : Entry) (store : List Val) → i < length entries → x ≡ get_or entries i x → after_entries (take (i + 1) entries) store ≡ after_outer x.outer (after_entries (take i entries) store)
entries_more entries i x store lt is = let e : i + 1 ≡ suc i = omega arith in ap (λ n. after_entries (take n entries) store) e ∙ entries_suc entries i x store lt is
