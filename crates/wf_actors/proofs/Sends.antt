-- What a unit sent is a row of its own updates.
use Rattle.std.proofs.Common.{◌≡◌, ⊎_elim, ℕ, zero, suc, ◌+◌, ◌-◌, ◌<◌, ◌≤◌, List, [], ◌∷◌, ◌++◌, map, refl, sym, ap, ap₂, ◌∙◌, subst, arith}
use Rattle.std.specs.List.{range_with_len}
use Rattle.std.proofs.lemmas.List.{append-nil}
use Rattle.std.proofs.lemmas.List.FromFn.{map-range_with_len_more}
use Rattle.wf_model.specs.declared.update.Update.{Update}
use Rattle.wf_parts.specs.declared.data.PartData.{PartData}
use Rattle.wf_views.specs.Relevant.{relevant}
use Rattle.wf_histories.specs.Histories.{Admission, History, taken}
use Rattle.wf_worlds.specs.Growing.{GoesOn, Fits, admitted, turned}
use Rattle.wf_worlds.proofs.Growing.{turn_takes}
use Rattle.wf_worlds.proofs.GoesOn.{update_on, admit_on, turn_on}
use Rattle.wf_exchange.specs.declared.port.Port.{Port}
use Rattle.wf_server.specs.Servers.{Server}
use Rattle.wf_server.specs.Sending.{sent_to}
use Rattle.wf_server.specs.Inbox.{IsPeer}
use Rattle.wf_actors.specs.declared.outbox.Outbox.{Outbox}
use Rattle.wf_actors.specs.Sendings.{sent_on, row_for, Sends, SendsSome, SentToSome}

map_agree : (f g : ℕ → Update) (a n : ℕ) → ((i : ℕ) → i < a + n → f i ≡ g i) → map f (range_with_len a n) ≡ map g (range_with_len a n)
map_agree f g a zero same = refl
map_agree f g a (suc n) same = ap₂ (λ x l. x ∷ l) (same a (omega arith)) (map_agree f g (a + 1) n (λ i lt. same i (omega (arith, lt))))

-- the updates up to the next one stay, as the history goes on
sent_stays : (part : PartData) (h g : History) → GoesOn h g → Fits h → (v j : ℕ) → j ≤ taken h + 1 → sent_to part g v j ≡ sent_to part h v j
sent_stays part h g on fits v j le = ap (λ u. relevant part.peers u v) (update_on h g on fits part j le)

-- a row is the same after an admission
row_admitted : (part : PartData) (h : History) (a : Admission) → Fits h → (v first : ℕ) → first ≤ taken h + 2 → row_for part (admitted h a) v first ≡ row_for part h v first
row_admitted part h a fits v first le =
    map_agree (sent_to part (admitted h a) v) (sent_to part h v) first (taken h + 2 - first)
    (λ i lt. sent_stays part h (admitted h a) (admit_on h a) fits v i (omega (arith, lt, le)))

-- and has the next update more after a Turn
row_turned : (part : PartData) (h : History) (inputs : List Update) → Fits h → (v first : ℕ) → first ≤ taken h + 2
    → row_for part (turned h inputs) v first ≡ row_for part h v first ++ sent_to part (turned h inputs) v (taken h + 2) ∷ []
row_turned part h inputs fits v first le =
    ap (λ n. map (sent_to part (turned h inputs) v) (range_with_len first n)) more
    ∙ map-range_with_len_more (sent_to part (turned h inputs) v) first (taken h + 2 - first) (taken h + 2) (omega (arith, le))
    ∙ ap (λ l. l ++ sent_to part (turned h inputs) v (taken h + 2) ∷ [])
    (map_agree (sent_to part (turned h inputs) v) (sent_to part h v) first (taken h + 2 - first)
    (λ i lt. sent_stays part h (turned h inputs) (turn_on h inputs) fits v i (omega (arith, lt, le))))
  where
    more : taken (turned h inputs) + 2 - first ≡ taken h + 2 - first + 1
    more = let t = turn_takes h inputs in omega (arith, t, le)

module _ {D : Type 0} where
  pub sends_stay : (s : Server D) (port : Port) (boxes : List Outbox) → Sends s s port port boxes boxes
  sends_stay s port boxes = record { each = (λ v first peer le is. is) }

  -- nothing is sent, and the rows stay
  pub sends_same : (old new : Server D) (port port_now : Port) (boxes : List Outbox) → new.part ≡ old.part → new.past ≡ old.past → ((v : ℕ) → sent_on port_now boxes v ≡ sent_on port boxes v) → Sends old new port port_now boxes boxes
  sends_same old new port port_now boxes part past same =
      record { each = (λ v first peer le is. same v ∙ is ∙ ap₂ (λ (p : PartData) (h : History). row_for p h v first) (sym part) (sym past)) }

  pub sends_then : (a b c : Server D) (pa pb pc : Port) (ba bb bc : List Outbox) → b.part ≡ a.part → taken a.past ≤ taken b.past → Sends a b pa pb ba bb → Sends b c pb pc bb bc → Sends a c pa pc ba bc
  sends_then a b c pa pb pc ba bb bc part le p q =
      record { each = (λ v first peer low is. q.each v first (subst (λ r. IsPeer r v) (sym part) peer) (omega (arith, low, le)) (p.each v first peer low is)) }

  pub some_then : (a b c : Server D) (pa pb pc : Port) (ba bb bc : List Outbox) → b.part ≡ a.part → taken a.past ≤ taken b.past → Sends a b pa pb ba bb → SendsSome b c pb pc bb bc → SendsSome a c pa pc ba bc
  some_then a b c pa pb pc ba bb bc part le p q =
      record { each = (λ v first peer low is. q.each v first (subst (λ r. IsPeer r v) (sym part) peer) (omega (arith, low, le)) (p.each v first peer low is)) }

  -- all is some
  pub all_some : (old new : Server D) (port port_now : Port) (boxes boxes_now : List Outbox) → Sends old new port port_now boxes boxes_now → SendsSome old new port port_now boxes boxes_now
  all_some old new port port_now boxes boxes_now all =
      record { each = (λ v first peer le is. ([], sym (all.each v first peer le is) ∙ sym (append-nil (sent_on port_now boxes_now v)))) }

  pub sends_admitted : (old new : Server D) (port : Port) (boxes : List Outbox) (a : Admission) → Fits old.past → new.part ≡ old.part → new.past ≡ admitted old.past a → Sends old new port port boxes boxes
  sends_admitted old new port boxes a fits part past =
      record {
        each = (λ v first peer le is.
            is ∙ sym (row_admitted old.part old.past a fits v first le)
            ∙ ap₂ (λ (p : PartData) (h : History). row_for p h v first) (sym part) (sym past));
      }

  module _ (old new : Server D) (port port_now : Port) (boxes boxes_now : List Outbox) (inputs : List Update) (fits : Fits old.past) (part : new.part ≡ old.part) (past : new.past ≡ turned old.past inputs) where
    step_is : taken new.past + 1 ≡ taken old.past + 2
    step_is = let t : taken new.past ≡ suc (taken old.past) = ap taken past ∙ turn_takes old.past inputs in omega (arith, t)

    row_now : (v first : ℕ) → first ≤ taken old.past + 2 → row_for new.part new.past v first ≡ row_for old.part old.past v first ++ sent_to new.part new.past v (taken new.past + 1) ∷ []
    row_now v first le =
        ap₂ (λ (p : PartData) (h : History). row_for p h v first) part past
        ∙ row_turned old.part old.past inputs fits v first le
        ∙ ap (λ x. row_for old.part old.past v first ++ x ∷ [])
        (ap₂ (λ (p : PartData) (h : History). sent_to p h v (taken old.past + 2)) (sym part) (sym past) ∙ ap (sent_to new.part new.past v) (sym step_is))

    -- a Turn, and its update to each peer
    pub sends_turned : ((v : ℕ) → IsPeer new.part v → sent_on port_now boxes_now v ≡ sent_on port boxes v ++ sent_to new.part new.past v (taken new.past + 1) ∷ []) → Sends old new port port_now boxes boxes_now
    sends_turned all =
        record {
          each = (λ v first peer le is.
              all v (subst (λ p. IsPeer p v) (sym part) peer)
              ∙ ap (λ l. l ++ sent_to new.part new.past v (taken new.past + 1) ∷ []) is
              ∙ sym (row_now v first le));
        }

    -- to some peers
    pub sends_to_some : SentToSome new.part new.past (taken new.past + 1) port port_now boxes boxes_now → SendsSome old new port port_now boxes boxes_now
    sends_to_some some =
        record {
          each = (λ v first peer le is.
              ⊎_elim
              (λ sent.
              ([], row_now v first le ∙ ap (λ l. l ++ sent_to new.part new.past v (taken new.past + 1) ∷ []) (sym is) ∙ sym sent ∙ sym (append-nil (sent_on port_now boxes_now v))))
              (λ same. (
                sent_to new.part new.past v (taken new.past + 1) ∷ [],
                row_now v first le ∙ ap (λ l. l ++ sent_to new.part new.past v (taken new.past + 1) ∷ []) (sym is ∙ sym same),
              ))
              (some v (subst (λ p. IsPeer p v) (sym part) peer)));
        }
