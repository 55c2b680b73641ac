-- Histories that went on by updates that came in order agree still.
use Rattle.std.proofs.Common.{◌≡◌, ◌≢◌, ℕ, zero, suc, ◌+◌, ◌-◌, ◌<◌, ◌≤◌, ◌==◌, ◌⊎◌, inl, inr, not, Bool, true, false, List, [], ◌∷◌, ◌++◌, map, length, Option, Some, None, option_map, refl, sym, ap, ap₂, ◌∙◌, arith, eqb-true, eq-eqb, true≢false}
use Rattle.std.specs.List.{range_with_len, slice_get}
use Rattle.std.specs.Option.{option_and_then}
use Rattle.wf_model.specs.declared.chart.Chart.{Chart}
use Rattle.wf_model.specs.declared.update.Update.{Update}
use Rattle.wf_model.proofs.Bools.{Mem}
use Rattle.wf_semantics.proofs.Lists.{range_mem, mem_range, filter_mem, mem_filter}
use Rattle.wf_semantics.proofs.Children.{lt_or_ge}
use Rattle.wf_parts.specs.Parts.{part_of}
use Rattle.wf_views.proofs.Lists.{map_agree}
use Rattle.wf_histories.specs.Histories.{History, taken, inputs_at}
use Rattle.wf_histories.specs.Agreement.{Agree, lean, peers}
use Rattle.wf_worlds.specs.Growing.{Fits}
use Rattle.wf_worlds.specs.Worlds.{letter, gather}
use Rattle.wf_worlds.proofs.GoesOn.{taken_on, inputs_on, update_on}
use Rattle.wf_hosted.specs.Together.{first_sent, row_to, WentOn, HistoriesStillAgree}

-- ---- lists

-- what is found in a front is found in the whole, at its place
in_front : {X : Type 0} (xs ys : List X) (i : ℕ) (x : X) → slice_get xs i ≡ Some x → slice_get (xs ++ ys) i ≡ Some x
in_front [] ys i x e = absurd (cc)
in_front (y ∷ xs) ys zero x e = e
in_front (y ∷ xs) ys (suc i) x e = in_front xs ys i x e

-- the element of a row at a place, and that it is there
in_row : {X : Type 0} (f : ℕ → X) (a n i : ℕ) (x : X) → slice_get (map f (range_with_len a n)) i ≡ Some x → (i < n) × (f (a + i) ≡ x)
in_row f a zero i x e = absurd (cc)
in_row f a (suc n) zero x e = let z : a + 0 ≡ a = omega arith in (omega arith, ap f z ∙ some e)
  where
    some : Some (f a) ≡ Some x → f a ≡ x
    some p = cc
in_row f a (suc n) (suc i) x e =
    let ih = in_row f (a + 1) n i x e in
    let z : a + suc i ≡ (a + 1) + i = omega arith in
    (let lt = ih.0 in omega (arith, lt), ap f z ∙ ih.1)

-- what all of them give, each of which is right
gathered : (f : ℕ → Option Update) (g : ℕ → Update) (vs : List ℕ) (ups : List Update) → ((v : ℕ) (up : Update) → Mem v vs → f v ≡ Some up → up ≡ g v) → gather f vs ≡ Some ups → ups ≡ map g vs
gathered f g [] ups h e = cc
gathered f g (v ∷ vs) ups h e = go (f v) refl (gather f vs) refl (λ us q. gathered f g vs us (λ x up m. h x up (inr m)) q) e
  where
    go : (o : Option Update) → f v ≡ o → (r : Option (List Update)) → gather f vs ≡ r → ((us : List Update) → gather f vs ≡ Some us → us ≡ map g vs) →
        option_and_then (λ up. option_map (λ us. up ∷ us) r) o ≡ Some ups → ups ≡ g v ∷ map g vs
    go None p r q ih k = cc
    go (Some up) p None q ih k = cc
    go (Some up) p (Some us) q ih k = let e' : ups ≡ up ∷ us = cc in e' ∙ ap₂ (λ (x : Update) (l : List Update). x ∷ l) (h v up (inl refl) p) (ih us q)

-- and each of them gave something
gather_each : (f : ℕ → Option Update) (vs : List ℕ) (ups : List Update) → gather f vs ≡ Some ups → (v : ℕ) → Mem v vs → (up : Update) × (f v ≡ Some up)
gather_each f [] ups e v m = absurd m
gather_each f (x ∷ vs) ups e v m = go (f x) refl (gather f vs) refl (λ us q w. gather_each f vs us q v w) e
  where
    none_some : None ≡ Some ups → ⊥
    none_some z = cc

    go : (o : Option Update) → f x ≡ o → (r : Option (List Update)) → gather f vs ≡ r → ((us : List Update) → gather f vs ≡ Some us → Mem v vs → (up : Update) × (f v ≡ Some up)) →
        option_and_then (λ up. option_map (λ us. up ∷ us) r) o ≡ Some ups → (up : Update) × (f v ≡ Some up)
    go None p r q ih k = absurd (none_some k)
    go (Some up) p None q ih k = absurd (none_some k)
    go (Some up) p (Some us) q ih k = elim m [
      | inl e ↦ (up, ap f (sym e) ∙ p)
      | inr w ↦ ih us q w
    ]

-- ---- peers

module _ (chart : Chart) where
  abbrev n : ℕ
  n = length chart.units

  peer_mem : (u v : ℕ) → Mem v (peers n u) → (v < n) × (v ≢ u)
  peer_mem u v m =
      let both = filter_mem (λ v. not (v == u)) (range_with_len 0 n) v m in
      let r = range_mem 0 n v both.0 in
      let lt = r.1 in
      (omega (arith, lt), λ e. absurd (true≢false (sym both.1 ∙ ap not (eq-eqb v u e))))

  mem_peer : (u v : ℕ) → v < n → v ≢ u → Mem v (peers n u)
  mem_peer u v lt other = mem_filter (λ v. not (v == u)) (range_with_len 0 n) v (mem_range 0 n v (omega arith) (omega (arith, lt))) (go (v == u) refl)
    where
      go : (b : Bool) → (v == u) ≡ b → not (v == u) ≡ true
      go true e = absurd (other (eqb-true v u e))
      go false e = ap not e

  -- ---- all histories

  module _ (opening now : ℕ → History) (popped : ℕ → ℕ → List Update) (agree : Agree (lean chart) n (part_of chart) opening) (fits : (u : ℕ) → u < n → Fits (opening u)) (went : WentOn chart opening now popped) where
    -- no unit took fewer steps than at the opening
    further : (u : ℕ) → u < n → taken (opening u) ≤ taken (now u)
    further u lt = taken_on (opening u) (now u) (went.goes u) (fits u lt)

    -- the first step of a row isn't behind a step that a peer took since
    in_time : (u v j : ℕ) → u < n → v < n → taken (opening u) ≤ j → first_sent opening v ≤ suc j
    in_time u v j lt_u lt_v le = let made = agree.made v u lt_v lt_u in omega (arith, made, le)

    -- what came of a step is the peer's update of that step, and the peer is there
    of_step : (u v j : ℕ) (up : Update) → u < n → v < n → v ≢ u → taken (opening u) ≤ j → slice_get (popped u v) (suc j - first_sent opening v) ≡ Some up →
        (up ≡ letter chart now v u (suc j)) × (j < taken (now v) + 1)
    of_step u v j up lt_u lt_v other le e =
        let first : ℕ = first_sent opening v in
        let row = went.came u v lt_u lt_v other in
        let whole : slice_get (row_to chart opening now v u) (suc j - first) ≡ Some up = ap (λ (l : List Update). slice_get l (suc j - first)) row.1 ∙ in_front (popped u v) row.0 (suc j - first) up e in
        let found = in_row (letter chart now v u) first (taken (now v) + 2 - first) (suc j - first) up whole in
        let early : first ≤ suc j = in_time u v j lt_u lt_v le in
        let place : first + (suc j - first) ≡ suc j = omega (arith, early) in
        let lt = found.0 in
        (sym found.1 ∙ ap (letter chart now v u) place, omega (arith, lt, early))

    -- an earlier step
    old_kept : (u j : ℕ) → u < n → j < taken (opening u) → inputs_at (now u) j ≡ map (λ v. letter chart now v u (suc j)) (peers n u)
    old_kept u j lt l =
        inputs_on (opening u) (now u) (went.goes u) (fits u lt) j l
        ∙ agree.kept u j lt l
        ∙ map_agree (λ v. letter chart opening v u (suc j)) (λ v. letter chart now v u (suc j)) (peers n u)
        (λ v m. let here = (peer_mem u v m).0 in
        sym (ap (lean chart v u) (update_on (opening v) (now v) (went.goes v) (fits v here) (part_of chart v) (suc j) (let made = agree.made u v lt here in omega (arith, made, l)))))

    -- a later one
    new_kept : (u j : ℕ) → u < n → taken (opening u) ≤ j → j < taken (now u) → inputs_at (now u) j ≡ map (λ v. letter chart now v u (suc j)) (peers n u)
    new_kept u j lt le l =
        gathered (λ v. slice_get (popped u v) (suc j - first_sent opening v)) (λ v. letter chart now v u (suc j)) (peers n u) (inputs_at (now u) j)
        (λ v up m e. (of_step u v j up lt (peer_mem u v m).0 (peer_mem u v m).1 le e).0) (went.took u j lt le l)

    kept : (u j : ℕ) → u < n → j < taken (now u) → inputs_at (now u) j ≡ map (λ v. letter chart now v u (suc j)) (peers n u)
    kept u j lt l = go (lt_or_ge j (taken (opening u)))
      where
        go : (j < taken (opening u)) ⊎ (taken (opening u) ≤ j) → inputs_at (now u) j ≡ map (λ v. letter chart now v u (suc j)) (peers n u)
        go (inl before) = old_kept u j lt before
        go (inr since) = new_kept u j lt since l

    -- a unit that took a step since had its peers' updates of it
    made_since : (u v j : ℕ) → u < n → v < n → v ≢ u → taken (opening u) ≤ j → j < taken (now u) → j < taken (now v) + 1
    made_since u v j lt_u lt_v other le l =
        let each = gather_each (λ v. slice_get (popped u v) (suc j - first_sent opening v)) (peers n u) (inputs_at (now u) j) (went.took u j lt_u le l) v (mem_peer u v lt_v other) in
        (of_step u v j each.0 lt_u lt_v other le each.1).1

    made : (u v : ℕ) → u < n → v < n → taken (now u) ≤ taken (now v) + 1
    made u v lt_u lt_v = go (taken (now u)) refl (v == u) refl
      where
        go : (t : ℕ) → taken (now u) ≡ t → (b : Bool) → (v == u) ≡ b → taken (now u) ≤ taken (now v) + 1
        go t is true e = let same : taken (now v) ≡ taken (now u) = ap (λ (x : ℕ). taken (now x)) (eqb-true v u e) in omega (arith, same)
        go zero is false e = omega (arith, is)
        go (suc j) is false e = by (lt_or_ge j (taken (opening u)))
          where
            by : (j < taken (opening u)) ⊎ (taken (opening u) ≤ j) → taken (now u) ≤ taken (now v) + 1
            by (inl before) = let were = agree.made u v lt_u lt_v in let on = further v lt_v in omega (arith, before, is, were, on)
            by (inr since) = let there = made_since u v j lt_u lt_v (λ q. absurd (true≢false (sym (eq-eqb v u q) ∙ e))) since (omega (arith, is)) in omega (arith, is, there)

pub histories_still_agree : HistoriesStillAgree
histories_still_agree chart opening now popped agree fits went = record {
  kept = kept chart opening now popped agree fits went;
  made = made chart opening now popped agree fits went;
}
