-- What is read, added piece by piece.
use Rattle.std.proofs.Common.{◌≡◌, ℕ, ◌+◌, ◌<◌, ◌==◌, ◌||◌, ◌&&◌, Bool, true, false, List, length, take, get_or, sym, ◌∙◌, ap, ap₂}
use Rattle.std.specs.List.{list_any, range_with_len}
use Rattle.std.proofs.lemmas.List.Folds.{list_any_more}
use Rattle.wf_model.specs.declared.expr.Op.{Op}
use Rattle.wf_model.specs.declared.expr.Expr.{Expr}
use Rattle.wf_model.specs.declared.expr.Expr.TheVariants.{Not, Neg, Bin}
use Rattle.wf_model.specs.declared.chart.Chart.{Chart}
use Rattle.wf_model.specs.declared.chart.Transition.{Transition}
use Rattle.std.specs.Option.{option_map_or}
use Rattle.wf_parts.specs.Known.{concerns, is_own, is_state_of}
use Rattle.wf_parts.specs.Reads.{reads_state, reads_var, reads_act, guard_reads, values_read}
use Rattle.wf_scopes.proofs.Lines.{trans_get, source_read}
use Rattle.wf_partition.specs.declared.reading.Reads.{Reads}
use Rattle.wf_partition.specs.Marked.{marked, Adds, AreReads, reads_at}
use Rattle.wf_partition.proofs.Bits.{marked_none, marked_agree, marked_twice, row_more_by}

-- nothing is read
pub adds_none : (test : (Expr → Bool) → Bool) (reads : Reads) → ((r : Expr → Bool) → test r ≡ false) → Adds test reads reads
adds_none test reads h = record {
  states = marked_none (λ s. test (reads_state s)) reads.states (λ s. h (reads_state s));
  vars = marked_none (λ x. test (reads_var x)) reads.vars (λ x. h (reads_var x));
  acts = marked_none (λ a. test (reads_act a)) reads.acts (λ a. h (reads_act a));
}

-- an expression with no operator that reads nothing, a state, a variable or an activity
pub adds_leaf : (e : Expr) (reads : Reads) → ((s : ℕ) → reads_state s e ≡ false) → ((x : ℕ) → reads_var x e ≡ false) → ((a : ℕ) → reads_act a e ≡ false) → Adds (λ r. r e) reads reads
adds_leaf e reads s x a = record {
  states = marked_none (λ i. reads_state i e) reads.states s;
  vars = marked_none (λ i. reads_var i e) reads.vars x;
  acts = marked_none (λ i. reads_act i e) reads.acts a;
}

pub adds_state : (e : Expr) (reads : Reads) (bits : List Bool) (i : ℕ) → bits ≡ marked (λ k. i == k) reads.states → ((s : ℕ) → reads_state s e ≡ (i == s))
    → ((x : ℕ) → reads_var x e ≡ false) → ((a : ℕ) → reads_act a e ≡ false) → Adds (λ r. r e) reads (record reads { states = bits })
adds_state e reads bits i is s x a = record {
  states = is ∙ marked_agree (λ k. i == k) (λ k. reads_state k e) reads.states (λ k. sym (s k));
  vars = marked_none (λ k. reads_var k e) reads.vars x;
  acts = marked_none (λ k. reads_act k e) reads.acts a;
}

pub adds_var : (e : Expr) (reads : Reads) (bits : List Bool) (i : ℕ) → bits ≡ marked (λ k. i == k) reads.vars → ((s : ℕ) → reads_state s e ≡ false)
    → ((x : ℕ) → reads_var x e ≡ (i == x)) → ((a : ℕ) → reads_act a e ≡ false) → Adds (λ r. r e) reads (record reads { vars = bits })
adds_var e reads bits i is s x a = record {
  states = marked_none (λ k. reads_state k e) reads.states s;
  vars = is ∙ marked_agree (λ k. i == k) (λ k. reads_var k e) reads.vars (λ k. sym (x k));
  acts = marked_none (λ k. reads_act k e) reads.acts a;
}

pub adds_act : (e : Expr) (reads : Reads) (bits : List Bool) (i : ℕ) → bits ≡ marked (λ k. i == k) reads.acts → ((s : ℕ) → reads_state s e ≡ false)
    → ((x : ℕ) → reads_var x e ≡ false) → ((a : ℕ) → reads_act a e ≡ (i == a)) → Adds (λ r. r e) reads (record reads { acts = bits })
adds_act e reads bits i is s x a = record {
  states = marked_none (λ k. reads_state k e) reads.states s;
  vars = marked_none (λ k. reads_var k e) reads.vars x;
  acts = is ∙ marked_agree (λ k. i == k) (λ k. reads_act k e) reads.acts (λ k. sym (a k));
}

-- the same is read
pub adds_same : (one two : (Expr → Bool) → Bool) (old new : Reads) → Adds one old new → ((r : Expr → Bool) → one r ≡ two r) → Adds two old new
adds_same one two old new adds h = record {
  states = adds.states ∙ marked_agree _ _ old.states (λ s. h (reads_state s));
  vars = adds.vars ∙ marked_agree _ _ old.vars (λ x. h (reads_var x));
  acts = adds.acts ∙ marked_agree _ _ old.acts (λ a. h (reads_act a));
}

-- what counts is added, and what doesn't isn't
pub adds_counted : (counts : Bool) (test : (Expr → Bool) → Bool) (old new : Reads) → counts ≡ true → Adds test old new → Adds (λ r. counts && test r) old new
adds_counted counts test old new on adds = adds_same test (λ r. counts && test r) old new adds (λ r. sym (ap (λ (b : Bool). b && test r) on))

pub adds_skipped : (counts : Bool) (test : (Expr → Bool) → Bool) (reads : Reads) → counts ≡ false → Adds (λ r. counts && test r) reads reads
adds_skipped counts test reads off = adds_none (λ r. counts && test r) reads (λ r. ap (λ (b : Bool). b && test r) off)

-- one piece after the other
pub adds_both : (one two : (Expr → Bool) → Bool) (old bits new : Reads) → Adds one old bits → Adds two bits new → Adds (λ r. one r || two r) old new
adds_both one two old bits new first second = record {
  states = marked_twice (λ s. one (reads_state s)) (λ s. two (reads_state s)) old.states bits.states new.states first.states second.states;
  vars = marked_twice (λ x. one (reads_var x)) (λ x. two (reads_var x)) old.vars bits.vars new.vars first.vars second.vars;
  acts = marked_twice (λ a. one (reads_act a)) (λ a. two (reads_act a)) old.acts bits.acts new.acts first.acts second.acts;
}

-- one item more of a list
pub adds_more : {A : Type 0} (tests : (Expr → Bool) → A → Bool) (xs : List A) (i : ℕ) (x : A) (old bits new : Reads) → i < length xs → x ≡ get_or xs i x
    → Adds (λ r. list_any (tests r) (take i xs)) old bits → Adds (λ r. tests r x) bits new → Adds (λ r. list_any (tests r) (take (i + 1) xs)) old new
adds_more tests xs i x old bits new lt is before now =
    adds_same _ (λ r. list_any (tests r) (take (i + 1) xs)) old new (adds_both (λ r. list_any (tests r) (take i xs)) (λ r. tests r x) old bits new before now)
    (λ r. ap (λ (b : Bool). list_any (tests r) (take i xs) || b) (ap (tests r) is) ∙ sym (list_any_more (tests r) xs i x lt))

-- by the last operator
pub adds_Not : (x : Expr) (old new : Reads) → Adds (λ r. r x) old new → Adds (λ r. r (Not x)) old new
unfolding Rattle.wf_model.specs.declared.expr.Expr.TheBlock.hidden-the_row-Expr-0 denote.Hole.Carrier.hidden
adds_Not x old new h = record { states = h.states; vars = h.vars; acts = h.acts }

pub adds_Neg : (x : Expr) (old new : Reads) → Adds (λ r. r x) old new → Adds (λ r. r (Neg x)) old new
unfolding Rattle.wf_model.specs.declared.expr.Expr.TheBlock.hidden-the_row-Expr-0 denote.Hole.Carrier.hidden
adds_Neg x old new h = record { states = h.states; vars = h.vars; acts = h.acts }

pub adds_Bin : (op : Op) (x y : Expr) (old bits new : Reads) → Adds (λ r. r x) old bits → Adds (λ r. r y) bits new → Adds (λ r. r (Bin op x y)) old new
unfolding Rattle.wf_model.specs.declared.expr.Expr.TheBlock.hidden-the_row-Expr-0 denote.Hole.Carrier.hidden
adds_Bin op x y old bits new first second =
    let both = adds_both (λ r. r x) (λ r. r y) old bits new first second in
    record { states = both.states; vars = both.vars; acts = both.acts }

-- one number more, in rows
pub reads_more : (chart : Chart) (tests : (Expr → Bool) → ℕ → Bool) (test : (Expr → Bool) → Bool) (i : ℕ) (bits new : Reads)
    → AreReads chart (λ r. list_any (tests r) (range_with_len 0 i)) bits → Adds test bits new → ((r : Expr → Bool) → test r ≡ tests r i)
    → AreReads chart (λ r. list_any (tests r) (range_with_len 0 (i + 1))) new
reads_more chart tests test i bits new before now same = record {
  states = row_more_by (λ t s. tests (reads_state s) t) (λ s. test (reads_state s)) (length chart.states) i bits.states new.states before.states now.states (λ s lt. same (reads_state s));
  vars = row_more_by (λ t x. tests (reads_var x) t) (λ x. test (reads_var x)) (length chart.vars) i bits.vars new.vars before.vars now.vars (λ x lt. same (reads_var x));
  acts = row_more_by (λ t a. tests (reads_act a) t) (λ a. test (reads_act a)) (length chart.acts) i bits.acts new.acts before.acts now.acts (λ a lt. same (reads_act a));
}

-- its guard reads so, where that counts, or a value that it assigns, where these count
abbrev pub counted_reads : Bool → Bool → Transition → (Expr → Bool) → Bool
counted_reads guard values trans reads = (guard && guard_reads reads trans) || (values && values_read reads trans)

-- what one transition reads
pub counted_at : (chart : Chart) (u t : ℕ) (guard values : Bool) (tr : Transition) → t < length chart.transitions → tr ≡ get_or chart.transitions t tr
    → guard ≡ concerns chart u t → values ≡ is_state_of chart u tr.source.0 → (r : Expr → Bool) → counted_reads guard values tr r ≡ reads_at chart u r t
unfolding is_own
counted_at chart u t guard values tr lt is g v r =
    let there = trans_get chart t tr lt is in
    ap₂ (λ (a b : Bool). (a && guard_reads r tr) || (b && values_read r tr)) g (v ∙ ap (is_state_of chart u) (sym (source_read chart t tr lt is)))
    ∙ ap₂ (λ (a b : Bool). (concerns chart u t && a) || (is_own chart u t && b)) (sym (ap (λ o. option_map_or (guard_reads r) o false) there)) (sym (ap (λ o. option_map_or (values_read r) o false) there))
