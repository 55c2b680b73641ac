-- What units send is a row, and what a Turn kept is what its peers sent.
use Rattle.std.proofs.Common.{◌≡◌, ⊎_elim, inl, inr, ℕ, zero, suc, ◌+◌, ◌-◌, ◌<◌, ◌≤◌, ◌==◌, not, List, [], ◌∷◌, map, Option, Some, None, option_map, slice_get, refl, sym, ap, ap₂, ◌∙◌, subst, arith, eq-eqb, true≢false}
use Rattle.std.specs.Prelude.{option_and_then}
use Rattle.std.specs.List.{range_with_len}
use Rattle.std.proofs.lemmas.Option.{slice_get_within, get_or_from_slice_get}
use Rattle.std.proofs.lemmas.List.FromFn.{get_or-map-range_with_len, length-map-range_with_len}
use Rattle.wf_model.specs.declared.update.Update.{Update}
use Rattle.wf_model.proofs.Bools.{Mem}
use Rattle.wf_semantics.proofs.Lists.{range_mem, filter_mem}
use Rattle.wf_parts.specs.declared.data.PartData.{PartData}
use Rattle.wf_views.specs.Relevant.{cut_update}
use Rattle.wf_views.specs.OwnSteps.{part_step}
use Rattle.wf_histories.specs.Histories.{History, taken, inputs_at}
use Rattle.wf_histories.specs.Agreement.{peers}
use Rattle.wf_worlds.specs.Worlds.{gather}
use Rattle.wf_server.specs.Servers.{Server}
use Rattle.wf_server.specs.Sending.{sent_to}
use Rattle.wf_steps.specs.Fitting.{MayBeReceived}
use Rattle.wf_server.specs.Inbox.{IsPeer, IsUpdateOf}
use Rattle.wf_actors.specs.Taking.{IsRow, ComesMore}
use Rattle.wf_actors.specs.Peers.{KeptWhatCame}
use Rattle.wf_actors.specs.Sendings.{row_for}
use Rattle.wf_actors.proofs.Rows.{still_there}

-- what all of them give, each of which is right
gather_is : (f : ℕ → Option Update) (g : ℕ → Update) (vs : List ℕ) (updates : List Update) → ((v : ℕ) (x : Update) → Mem v vs → f v ≡ Some x → x ≡ g v) → gather f vs ≡ Some updates → updates ≡ map g vs
gather_is f g [] updates right e = cc
gather_is f g (v ∷ vs) updates right e = go (f v) (gather f vs) refl refl (λ us rest. gather_is f g vs us (λ w x m. right w x (inr m)) rest) e
  where
    go : (o : Option Update) (r : Option (List Update)) → f v ≡ o → gather f vs ≡ r → ((us : List Update) → gather f vs ≡ Some us → us ≡ map g vs)
        → option_and_then (λ update. option_map (λ us. update ∷ us) r) o ≡ Some updates → updates ≡ g v ∷ map g vs
    go None r first rest more e = absurd (cc e)
    go (Some x) None first rest more e = absurd (cc e)
    go (Some x) (Some us) first rest more e = let whole : updates ≡ x ∷ us = cc in whole ∙ ap₂ (λ (y : Update) (l : List Update). y ∷ l) (right v x (inl refl) first) (more us rest)

-- and each of them gave something
gave : (f : ℕ → Option Update) (vs : List ℕ) (updates : List Update) → gather f vs ≡ Some updates → (v : ℕ) → Mem v vs → (x : Update) × (f v ≡ Some x)
gave f [] updates e v m = absurd m
gave f (w ∷ vs) updates e v m = go (f w) (gather f vs) refl refl (λ us rest n. gave f vs us rest v n) e
  where
    go : (o : Option Update) (r : Option (List Update)) → f w ≡ o → gather f vs ≡ r → ((us : List Update) → gather f vs ≡ Some us → Mem v vs → (x : Update) × (f v ≡ Some x))
        → option_and_then (λ update. option_map (λ us. update ∷ us) r) o ≡ Some updates → (x : Update) × (f v ≡ Some x)
    go None r first rest more e = absurd (cc e)
    go (Some x) None first rest more e = absurd (cc e)
    go (Some x) (Some us) first rest more e = ⊎_elim (λ is. (x, ap f (sym is) ∙ first)) (λ n. more us rest n) m

-- the update at a place of a row
row_at : (part : PartData) (past : History) (u first k : ℕ) (x : Update) → slice_get (row_for part past u first) k ≡ Some x → (k < taken past + 2 - first) × (x ≡ sent_to part past u (first + k))
row_at part past u first k x at =
    let long = length-map-range_with_len (sent_to part past u) first (taken past + 2 - first) in
    let within : k < taken past + 2 - first = let lt = slice_get_within (row_for part past u first) k x at in omega (arith, lt, long) in (
      within,
      sym (get_or_from_slice_get (row_for part past u first) k x x at) ∙ get_or-map-range_with_len (sent_to part past u) first (taken past + 2 - first) k (first + k) x within refl,
    )

-- WHAT IS SENT IS A ROW, if the reader may receive each of it

sent_from : (part : PartData) (past : History) (u j : ℕ) → (sent_to part past u j).from.0 ≡ part.unit.0
unfolding cut_update part_step
sent_from part past u zero = refl
sent_from part past u (suc j) = refl

sent_step : (part : PartData) (past : History) (u j : ℕ) → (sent_to part past u j).step ≡ j
unfolding cut_update part_step
sent_step part past u zero = refl
sent_step part past u (suc j) = refl

pub sent_is_row : (reader part : PartData) (past : History) (first : ℕ) → IsPeer reader part.unit.0
    → ((j : ℕ) → first ≤ j → j ≤ taken past + 1 → MayBeReceived reader (sent_to part past reader.unit.0 j)) → IsRow reader part.unit.0 first (row_for part past reader.unit.0 first)
sent_is_row reader part past first peer fits k x at =
    let r = row_at part past reader.unit.0 first k x at in
    let lt = r.0 in
    subst (IsUpdateOf reader part.unit.0 (first + k)) (sym r.1)
    (record {
      peer = peer;
      from = sent_from part past reader.unit.0 (first + k);
      at_step = sent_step part past reader.unit.0 (first + k);
      fit = fits (first + k) (omega arith) (omega (arith, lt));
    })

-- WHAT A TURN KEPT

module _ {D : Type 0} (server : Server D) (first : ℕ → ℕ) (came : ℕ → List Update) (part : ℕ → PartData) (past : ℕ → History) (i : ℕ) (kept : KeptWhatCame first server came i)
    (sent : (v : ℕ) → IsPeer server.part v → ComesMore (came v) (row_for (part v) (past v) server.part.unit.0 (first v))) (from : (v : ℕ) → IsPeer server.part v → first v ≤ suc i) where
  peer_is : (v : ℕ) → Mem v (peers server.part.units server.part.unit.0) → IsPeer server.part v
  peer_is v m =
      let f = filter_mem (λ w. not (w == server.part.unit.0)) (range_with_len 0 server.part.units) v m in
      let r = range_mem 0 server.part.units v f.0 in
      record { within = omega arith; other = (λ e. true≢false (sym f.1 ∙ ap not (eq-eqb v server.part.unit.0 e))) }

  at_peer : (v : ℕ) → IsPeer server.part v → (x : Update) → slice_get (came v) (suc i - first v) ≡ Some x → (suc i ≤ taken (past v) + 1) × (x ≡ sent_to (part v) (past v) server.part.unit.0 (suc i))
  at_peer v peer x at =
      let r = row_at (part v) (past v) server.part.unit.0 (first v) (suc i - first v) x (still_there (came v) (row_for (part v) (past v) server.part.unit.0 (first v)) (sent v peer) (suc i - first v) x at) in
      let le = from v peer in
      let step : first v + (suc i - first v) ≡ suc i = omega (arith, le) in
      let lt = r.0 in (omega (arith, lt, le), r.1 ∙ ap (sent_to (part v) (past v) server.part.unit.0) step)

  -- it is each peer's update of that step
  pub kept_is_sent : inputs_at server.past i ≡ map (λ v. sent_to (part v) (past v) server.part.unit.0 (suc i)) (peers server.part.units server.part.unit.0)
  kept_is_sent =
      gather_is (λ v. slice_get (came v) (suc i - first v)) (λ v. sent_to (part v) (past v) server.part.unit.0 (suc i)) (peers server.part.units server.part.unit.0) (inputs_at server.past i)
      (λ v x m at. (at_peer v (peer_is v m) x at).1) kept

  -- so the peer has made it
  pub kept_is_made : (v : ℕ) → Mem v (peers server.part.units server.part.unit.0) → suc i ≤ taken (past v) + 1
  kept_is_made v m =
      let it = gave (λ w. slice_get (came w) (suc i - first w)) (peers server.part.units server.part.unit.0) (inputs_at server.past i) kept v m in
      (at_peer v (peer_is v m) it.0 it.1).0
