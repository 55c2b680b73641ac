-- The tables of a step show what it sees.
use Rattle.std.proofs.Common.{◌≡◌, ◌==◌, ℕ, Bool, cond, List, find, Option, Some, None, refl, ◌∙◌, ap, ap₂}
use Rattle.std.specs.Option.{option_map}
use Rattle.std.specs.List.{list_any}
use Rattle.wf_model.specs.declared.ids.ActId.{ActId}
use Rattle.wf_model.specs.declared.value.Val.{Val}
use Rattle.wf_model.specs.Bits.{bit}
use Rattle.wf_parts.specs.declared.data.KnownState.{KnownState}
use Rattle.wf_parts.specs.declared.data.PartData.{PartData}
use Rattle.wf_semantics.specs.Snapshot.{Snapshot}
use Rattle.wf_views.specs.Views.{View, sees, var_now, open_now, is_inside, count_now, is_done_now, is_there_now}
use Rattle.wf_updates.specs.Tables.{entry}
use Rattle.wf_flat.specs.Sights.{seen_by}

pub sees_shown : (part : PartData) (view : View) (known inside : List Bool) (vars : List (Option Val)) (unclosed : List (Option ℕ)) (done there : List Bool)
    → bit known ≡ (λ k. list_any (λ (state : KnownState). state.id.0 == k) part.states) → bit inside ≡ is_inside view → entry vars ≡ var_now view → entry unclosed ≡ open_now view
    → bit done ≡ is_done_now view → bit there ≡ is_there_now view
    → let shown : Snapshot = record { seen = seen_by known inside vars unclosed done; there = bit there } in shown ≡ sees part view
unfolding sees
sees_shown part view known inside vars unclosed done there k n v u d t =
    λ i. record { seen = record { state = λ s. cond (k i s) (Some (n i s)) None; var = v i; count = u i; done = λ a. done_at a i }; there = t i }
  where
    twice : (a : ℕ) (o : Option (ActId × ℕ)) → option_map (λ m. is_done_now view a) (option_map (count_now view) o) ≡ option_map (λ c. is_done_now view a) o
    twice a None = refl
    twice a (Some c) = refl

    done_at : (a : ℕ) → option_map (λ (m : ℕ). bit done a) (entry unclosed a) ≡ option_map (λ c. is_done_now view a) (find (λ c. c.0.0 == a) view.unclosed)
    done_at a =
        ap₂ (λ (b : Bool) (o : Option ℕ). option_map (λ m. b) o) (ap (λ (f : ℕ → Bool). f a) d) (ap (λ (f : ℕ → Option ℕ). f a) u)
        ∙ twice a (find (λ c. c.0.0 == a) view.unclosed)
