-- Two units: whose updates came, and that their histories are all.
use Rattle.std.proofs.Common.{◌≡◌, ◌<◌, ◌+◌, ◌∷◌, [], ℕ, zero, suc, List, Option, Some, length, IsSome, refl, sym, ap₂, subst, inr, arith}
use Rattle.std.specs.Prelude.{◌⊎◌}
use Rattle.std.specs.Borrow.{Bor}
use Rattle.wf_model.specs.declared.chart.Chart.{Chart}
use Rattle.wf_model.specs.declared.update.Update.{Update}
use Rattle.wf_parts.specs.declared.data.PartData.{PartData}
use Rattle.wf_parts.specs.Parts.{part_of}
use Rattle.wf_histories.specs.Histories.{History}
use Rattle.wf_steps.specs.Growing.{IsMade}
use Rattle.wf_steps.specs.Room.{Kept}
use Rattle.wf_server.specs.Servers.{held_in}
use Rattle.wf_server.specs.Inbox.{AllCame}
use Rattle.wf_agreement.specs.Differing.{AreMade}

-- if the second of two units is the first one's peer, and its update came, one of each peer came
pub all_came : (part : PartData) (came : List (Option Update)) (update : Update) → part.units ≡ 2 → part.unit.0 ≡ 0 → held_in came 1 ≡ Some update → AllCame part came
all_came part came update units first is v peer =
    let one : v ≡ 1 = omega (arith, peer.within, peer.other, units, first) in
    subst (λ (w : ℕ). IsSome (held_in came w)) (sym one) (subst (λ (o : Option Update). IsSome o) (sym is) refl)

-- the history of each of two units
abbrev past_of : History → History → ℕ → History
past_of a b zero = a
past_of a b (suc u) = b

-- those of a chart's two units
pub all_made : (chart : Chart) (a b : Bor PartData) (x y : Bor Kept) → length chart.units ≡ 2 → a.now ≡ part_of chart 0 → b.now ≡ part_of chart 1
    → IsMade (part_of chart 0) x.now.past → IsMade (part_of chart 1) y.now.past → AreMade (a ∷ b ∷ []) (x ∷ y ∷ [])
all_made chart a b x y units a_is b_is a_made b_made = record {
  chart = chart;
  units = sym units;
  past = past_of x.now.past y.now.past;
  of = record {
    parts_are = ap₂ (λ (p q : PartData). p ∷ q ∷ []) a_is b_is;
    pasts_are = refl;
  };
  made = made;
}
  where
    made : (u : ℕ) → u < 2 → IsMade (part_of chart u) (past_of x.now.past y.now.past u)
    made zero lt = a_made
    made (suc zero) lt = b_made
    made (suc (suc u)) lt = absurd (omega (arith, lt))

-- before the first step, step 1 is the next one
pub first_is_kept : (taken : ℕ) → taken ≡ 0 → (1 ≡ taken) ⊎ (1 ≡ taken + 1)
first_is_kept taken none = inr (omega (arith, none))
