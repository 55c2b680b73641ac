-- The set of the peers whose update didn't come, slot by slot.
use Rattle.std.proofs.Common.{◌≡◌, ℕ, ◌+◌, ◌*◌, ◌%◌, ◌^◌, ◌<◌, ◌≤◌, cond, Bool, true, false, not, List, length, Option, refl, sym, ap, ◌∙◌, subst, arith, eqb-true, eq-eqb, lt-ltb, true≢false, rules}
use Rattle.std.specs.Prelude.{◌==◌, ◌&&◌, nat_lt, is_some, bit_or, if◌then◌else◌}
use Rattle.std.specs.Int.{bit_at, w8}
use Rattle.std.proofs.lemmas.Nat.Bits.{bit_at-zero, bit_at_set_same, bit_at_set_other}
use Rattle.wf_model.specs.Limits.{max_units}
use Rattle.wf_model.specs.declared.update.Update.{Update}
use Rattle.wf_parts.specs.declared.data.PartData.{PartData}
use Rattle.wf_server.specs.Servers.{held_in}
use Rattle.wf_server.specs.Inbox.{is_missing, AreMissing}

-- the set is right below a unit, and has none from it on
pub record AreMissingTo (part : PartData) (came : List (Option Update)) (at set : ℕ) : Type 0 where
  pub below : (v : ℕ) → v < at → bit_at set v ≡ (if is_missing part came v then 1 else 0)
  pub rest : (v : ℕ) → at ≤ v → bit_at set v ≡ 0

pub none_yet : (part : PartData) (came : List (Option Update)) → AreMissingTo part came 0 0
none_yet part came = record { below = λ v lt. absurd (omega (arith, lt)); rest = λ v le. bit_at-zero v }

module _ (part : PartData) (came : List (Option Update)) (at set : ℕ) (so_far : AreMissingTo part came at set) where
  pub one_there : is_missing part came at ≡ false → AreMissingTo part came (at + 1) set
  one_there is = record {
    below = λ v lt. go v lt (v == at) refl;
    rest = λ v le. so_far.rest v (omega (arith, le));
  }
    where
      go : (v : ℕ) → v < at + 1 → (b : Bool) → (v == at) ≡ b → bit_at set v ≡ cond (is_missing part came v) 1 0
      go v lt true e =
          let same : v ≡ at = eqb-true v at e in
          so_far.rest v (omega (arith, same)) ∙ sym (ap (λ (b : Bool). cond b 1 0) (ap (is_missing part came) same ∙ is))
      go v lt false e = so_far.below v (let no : v ≡ at → ⊥ = λ same. true≢false (sym (eq-eqb v at same) ∙ e) in omega (arith, lt, no))

  pub one_more : at < 8 → is_missing part came at ≡ true → AreMissingTo part came (at + 1) (bit_or set (1 * 2 ^ at % 2 ^ 8))
  one_more small is = record {
    below = λ v lt. go v lt (v == at) refl;
    rest = λ v le. bit_at_set_other w8 set at small v (λ same. absurd (omega (arith, le, same))) ∙ so_far.rest v (omega (arith, le));
  }
    where
      go : (v : ℕ) → v < at + 1 → (b : Bool) → (v == at) ≡ b → bit_at (bit_or set (1 * 2 ^ at % 2 ^ 8)) v ≡ cond (is_missing part came v) 1 0
      go v lt true e =
          let same : v ≡ at = eqb-true v at e in
          ap (bit_at (bit_or set (1 * 2 ^ at % 2 ^ 8))) same ∙ bit_at_set_same w8 set at small ∙ sym (ap (λ (b : Bool). cond b 1 0) (ap (is_missing part came) same ∙ is))
      go v lt false e =
          let no : v ≡ at → ⊥ = λ same. true≢false (sym (eq-eqb v at same) ∙ e) in
          bit_at_set_other w8 set at small v no ∙ so_far.below v (omega (arith, lt, no))

-- what a slot tells of its unit
pub missing_is : (part : PartData) (came : List (Option Update)) (at : ℕ) → at < part.units → (own : Bool) → (at == part.unit.0) ≡ own → (some : Bool) → is_some (held_in came at) ≡ some → is_missing part came at ≡ (not own && not some)
missing_is part came at within own own_is some some_is =
    ap (λ (b : Bool). b && (not (at == part.unit.0) && not (is_some (held_in came at)))) (lt-ltb at part.units within)
    ∙ ap (λ (b : Bool). not b && not (is_some (held_in came at))) own_is
    ∙ ap (λ (b : Bool). not own && not b) some_is

-- past the last unit none is missing
pub all_missing : (part : PartData) (came : List (Option Update)) (set : ℕ) → length came ≡ part.units → AreMissingTo part came (length came) set → AreMissing part came set
all_missing part came set size so_far v small = go (nat_lt v part.units) refl
  where
    go : (b : Bool) → nat_lt v part.units ≡ b → bit_at set v ≡ cond (is_missing part came v) 1 0
    go true e = so_far.below v (search (rules, e, size))
    go false e = so_far.rest v (search (rules, e, size)) ∙ sym (ap (λ (b : Bool). cond (b && (not (v == part.unit.0) && not (is_some (held_in came v)))) 1 0) e)

-- and so of a slot that was read
module _ (part : PartData) (came : List (Option Update)) (at : ℕ) (within : at < part.units) where
  pub is_own : at ≡ part.unit.0 → is_missing part came at ≡ false
  is_own own = missing_is part came at within true (eq-eqb at part.unit.0 own) (is_some (held_in came at)) refl

  pub is_there : is_some (held_in came at) ≡ true → is_missing part came at ≡ false
  is_there some = go (at == part.unit.0) refl
    where
      go : (own : Bool) → (at == part.unit.0) ≡ own → is_missing part came at ≡ false
      go true e = missing_is part came at within true e true some
      go false e = missing_is part came at within false e true some

  pub is_absent : (at ≡ part.unit.0 → ⊥) → is_some (held_in came at) ≡ false → is_missing part came at ≡ true
  is_absent unlike none = go (at == part.unit.0) refl
    where
      go : (own : Bool) → (at == part.unit.0) ≡ own → is_missing part came at ≡ true
      go true e = absurd (unlike (eqb-true at part.unit.0 e))
      go false e = missing_is part came at within false e false none
