-- What the machine of sound units shows, lets in and sends is what each unit's part and history make of it.
use Rattle.std.proofs.Common.{◌≡◌, ◌≢◌, ℕ, zero, suc, ◌+◌, ◌<◌, ◌≤◌, List, [], ◌∷◌, map, length, slice_get, unwrap_or, Option, Some, option_map, refl, sym, ap, ◌∙◌, subst, arith}
use Rattle.std.proofs.lemmas.List.{length-map}
use Rattle.std.proofs.lemmas.Option.{slice_get-map}
use Rattle.wf_model.specs.declared.outer.Outer.{Outer}
use Rattle.wf_model.specs.declared.chart.Chart.{Chart}
use Rattle.wf_model.specs.Accepted.{IsAccepted}
use Rattle.wf_parts.specs.Parts.{part_of}
use Rattle.wf_parts.specs.Peers.{peers_of}
use Rattle.wf_codec.specs.Ranges.{IsUpdate}
use Rattle.wf_codec.specs.Spelling.{spelling_of}
use Rattle.wf_views.specs.Relevant.{relevant}
use Rattle.wf_machine.specs.Server.{Server, new_server, taken as steps}
use Rattle.wf_machine.specs.Machine.{CountingMachine, server}
use Rattle.wf_machine.specs.Sights.{sight_of, items_of}
use Rattle.wf_machine.specs.Lines.{lets}
use Rattle.wf_histories.specs.Histories.{Admission, History, taken, local_update}
use Rattle.wf_histories.specs.Laws.{AreLean}
use Rattle.wf_worlds.specs.Admitting.{lets_in}
use Rattle.wf_worlds.specs.Worlds.{letter}
use Rattle.wf_bridge.specs.Bridging.{in_history, CountsOf, node_sight, node_items}
use Rattle.wf_bridge.proofs.Bridging.{lets_same, sight_same, items_same}
use Rattle.wf_bridge.proofs.Placing.{letter_cut}
use Rattle.wf_world.specs.declared.mail.Sent.{Sent}
use Rattle.wf_world.specs.Sent.{brought}
use Rattle.wf_world.specs.Mail.{message_of, IsLetter, AreLetters, AreOfHistories}
use Rattle.wf_slot.specs.Units.{UnitState, counted, server_of, new_unit}
use Rattle.wf_world.specs.Machines.{machine_of}
use Rattle.wf_world.specs.Sounds.{unit_at, hist_of, IsSound}
use Rattle.wf_world.proofs.Sounds.{are_lean}

-- a unit that is there
get_at : {A : Type 0} (xs : List A) (i : ℕ) → i < length xs → (x : A) × (slice_get xs i ≡ Some x)
get_at [] i lt = absurd (omega (arith, lt))
get_at (x ∷ xs) zero lt = (x, refl)
get_at (x ∷ xs) (suc i) lt = get_at xs i (omega (arith, lt))

pub is_at : (units : List UnitState) (u : ℕ) → u < length units → slice_get units u ≡ Some (unit_at units u)
is_at units u lt = let found = get_at units u lt in found.1 ∙ ap (λ (x : UnitState). Some x) (sym (ap (λ (o : Option UnitState). unwrap_or o (new_unit u)) found.1))

pub server_at : (units : List UnitState) (messages : List Sent) (u : ℕ) → u < length units → server (machine_of units messages) u ≡ server_of (unit_at units u)
server_at units messages u lt = ap (λ (o : Option Server). unwrap_or o new_server) (slice_get-map server_of units u ∙ ap (option_map server_of) (is_at units u lt))

-- an admission goes to the machine and back
back : (xs : List Admission) → xs ≡ map in_history (map counted xs)
back [] = refl
back (x ∷ xs) = ap (λ (ys : List Admission). x ∷ ys) (back xs)

module _ (chart : Chart) (ok : IsAccepted chart) (units : List UnitState) (messages : List Sent) (count : length units ≡ length chart.units) where
  abbrev m : CountingMachine
  m = machine_of units messages

  abbrev h : ℕ → History
  h = hist_of units

  in_units : (u : ℕ) → u < length chart.units → u < length units
  in_units u lt = omega (arith, lt, count)

  -- THE MACHINE COUNTS THE HISTORIES
  pub counts : CountsOf m (length chart.units) h
  counts = record {
    units = length-map units server_of ∙ count;
    admissions = λ u lt. back (h u).admissions ∙ ap (λ (s : Server). map in_history s.admissions) (sym (server_at units messages u (in_units u lt)));
    sealed = λ u lt. ap (λ (s : Server). s.sealed) (sym (server_at units messages u (in_units u lt)));
  }

  module _ (s : IsSound chart units) (u : ℕ) (lt : u < length chart.units) where
    lean_here : AreLean chart h
    lean_here = are_lean chart ok units count s

    -- the rule of admission
    pub lets_is : (o : Outer) → lets chart m u o ≡ lets_in (part_of chart u) (h u) o
    lets_is o = lets_same chart m h u o lean_here counts lt

    -- the sight and the items
    pub sight_is : sight_of chart m u ≡ node_sight (part_of chart u) (h u)
    sight_is = sight_same chart m h u lean_here counts lt

    pub items_is : items_of chart m u ≡ node_items (part_of chart u) (h u)
    items_is = items_same chart m h u lean_here counts lt

    pub taken_is : steps (server m u) ≡ taken (h u)
    taken_is = ap (λ (x : Server). steps x) (server_at units messages u (in_units u lt))

    -- what it sends of a step taken or the next one: its own update, cut by what its part keeps of its peers
    pub brought_is : (v j : ℕ) → 1 ≤ j → j ≤ taken (h u) + 1 → brought chart m (record { sender = u; receiver = v; step = j }) ≡ relevant (part_of chart u).peers (local_update (part_of chart u) (h u) j) v
    unfolding part_of peers_of
    brought_is v zero some near = absurd (omega (arith, some))
    brought_is v (suc j) some near = sym (letter_cut chart m h u v j lean_here counts (omega (arith, lt)) (omega (arith, near)))

    -- so such a message is a letter
    pub letter_is : (x : Sent) → x.sender.0 ≡ u → x.receiver.0 < length chart.units → u ≢ x.receiver.0 → 1 ≤ x.step → x.step ≤ taken (h u) + 1 →
        x.bytes ≡ spelling_of (relevant (part_of chart u).peers (local_update (part_of chart u) (h u) x.step) x.receiver.0) → IsUpdate (relevant (part_of chart u).peers (local_update (part_of chart u) (h u) x.step) x.receiver.0) →
        IsLetter chart m x
    letter_is x from to other some near bytes whole =
        let units_is = counts.units in
        let at = taken_is in
        let here : steps (server m x.sender.0) ≡ steps (server m u) = ap (λ (w : ℕ). steps (server m w)) from in
        let is : relevant (part_of chart u).peers (local_update (part_of chart u) (h u) x.step) x.receiver.0 ≡ brought chart m (message_of x) =
        sym (brought_is x.receiver.0 x.step some near) ∙ ap (λ (w : ℕ). brought chart m (record { sender = w; receiver = x.receiver.0; step = x.step })) (sym from) in
        record {
          made = record { sender = omega (arith, lt, from, units_is); receiver = omega (arith, to, units_is); other = λ same. other (sym from ∙ same); first = some; step = omega (arith, here, at, near) };
          bytes = bytes ∙ ap spelling_of is;
          whole = subst IsUpdate is whole;
        }

    -- and what it sends is what a peer is sent of it
    pub brought_letter : (v j : ℕ) → 1 ≤ j → j ≤ taken (h u) + 1 → brought chart m (record { sender = u; receiver = v; step = j }) ≡ letter chart h u v j
    brought_letter v zero some near = absurd (omega (arith, some))
    brought_letter v (suc j) some near = sym (letter_cut chart m h u v j lean_here counts (omega (arith, lt)) (omega (arith, near)))

  -- so each message is of its sender's history
  module _ (s : IsSound chart units) where
    of_history : (x : Sent) → IsLetter chart m x → x.bytes ≡ spelling_of (letter chart h x.sender.0 x.receiver.0 x.step)
    of_history x is =
        let units_is = counts.units in
        let from = is.made.sender in
        let lt : x.sender.0 < length chart.units = omega (arith, from, units_is) in
        let at = taken_is s x.sender.0 lt in
        let step = is.made.step in
        is.bytes ∙ ap spelling_of (brought_letter s x.sender.0 lt x.receiver.0 x.step is.made.first (omega (arith, step, at)))

    pub of_histories : (xs : List Sent) → AreLetters chart m xs → AreOfHistories chart h xs
    of_histories [] are = tt
    of_histories (x ∷ xs) are = (of_history x are.0, of_histories xs are.1)
