-- What is asked of a unit is what the machine answers for the server that counts for it.
use Rattle.std.proofs.Common.{◌≡◌, ◌≢◌, ℕ, ◌+◌, min, Bool, true, false, List, [], ◌∷◌, map, length, Option, Some, None, is_some, Result, Ok, Err, refl, sym, ap, ap₂, ◌∙◌}
use Rattle.std.proofs.lemmas.Bool.{cond-true, cond-false}
use Rattle.std.proofs.lemmas.List.{length-map}
use Rattle.wf_model.specs.Limits.{max_sealed}
use Rattle.wf_model.specs.declared.outer.Outer.{Outer}
use Rattle.wf_model.specs.declared.outer.OuterFault.{OuterFault}
use Rattle.wf_model.specs.declared.update.Update.{Update}
use Rattle.wf_disk.specs.declared.arm.Arm.{Arm}
use Rattle.wf_machine.specs.declared.admission.Admission as of
use Rattle.wf_machine.specs.declared.reply.Reply.{Reply}
use Rattle.wf_machine.specs.declared.reply.Reply.TheVariants as reply
use Rattle.wf_machine.specs.declared.reply.TurnReply.{TurnReply}
use Rattle.wf_machine.specs.declared.reply.TurnReply.TheVariants as turn
use Rattle.wf_machine.specs.Strokes.{Fuse, Done, SetOff, strokes}
use Rattle.wf_machine.specs.Bars.{Bar, bar_of, barred, turn_barred}
use Rattle.wf_machine.specs.Server.{Health, Works, Failed, IsDown, Record, Admits, Turns, Server, later_than, fallen, written}
use Rattle.wf_machine.specs.Lines.{bar_at, unless, turn_unless, same_outer, asked, admit_by, unit_set, turn_by, crash_by}
use Rattle.wf_histories.specs.Histories.{Admission, taken}
use Rattle.wf_worlds.specs.Growing.{unsealed, admitted, turned}
use Rattle.wf_slot.specs.Units.{UnitState, counted, server_of, down, struck}
use Rattle.wf_slot.proofs.Requests.{outer_Decides}
use Rattle.wf_slot.proofs.Units.{admitted_is, turned_is, next_is, wrote, broke}

module _ (unit : UnitState) where
  -- crash
  falls : (h : Health) (s : Server) → h ≢ IsDown → crash_by h s ≡ (reply.Crashed, fallen s)
  falls Works s up = refl
  falls Failed s up = refl
  falls IsDown s up = absurd (up refl)

  pub crash_up : unit.health ≢ IsDown → crash_by unit.health (server_of unit) ≡ (reply.Crashed, server_of (down unit))
  crash_up up = falls unit.health (server_of unit) up

  pub crash_down : unit.health ≡ IsDown → crash_by unit.health (server_of unit) ≡ (reply.Down, server_of unit)
  crash_down is = ap (λ (h : Health). crash_by h (server_of unit)) is

  -- admit, where the admission rule says this
  module _ (request : ℕ) (outer : Outer) (may : Result (Unit {0}) OuterFault) where
    abbrev known : Option (ℕ × of.Admission)
    known = asked request (map counted unit.past.admissions)

    abbrev wanted : of.Admission
    wanted = record { request = request; outer = outer }

    abbrev new_admission : Admission
    new_admission = record { request = request; outer = outer }

    -- what the machine does
    abbrev pub admits : Reply × Server
    admits = admit_by (bar_at unit.health) known may (server_of unit) wanted

    healthy : (did : Reply × Server) → unit.health ≡ Works → admit_by None known may (server_of unit) wanted ≡ did → admits ≡ did
    healthy did works e = ap (λ (h : Health). admit_by (bar_at h) known may (server_of unit) wanted) works ∙ e

    pub admit_down : unit.health ≡ IsDown → admits ≡ (reply.Down, server_of unit)
    admit_down is = ap (λ (h : Health). admit_by (bar_at h) known may (server_of unit) wanted) is

    pub admit_failed : unit.health ≡ Failed → admits ≡ (reply.Reopen, server_of unit)
    admit_failed is = ap (λ (h : Health). admit_by (bar_at h) known may (server_of unit) wanted) is

    pub admit_again : (n : ℕ) (a : Admission) → unit.health ≡ Works → known ≡ Some (n, counted a) → a.outer ≡ outer → admits ≡ (reply.Again n, server_of unit)
    admit_again n a works is same =
        healthy (reply.Again n, server_of unit) works
        (ap (λ (k : Option (ℕ × of.Admission)). admit_by None k may (server_of unit) wanted) is
        ∙ ap (λ (r : Reply). (r, server_of unit)) (cond-true (same_outer a.outer outer) (reply.Again n) (reply.Reused n) ((outer_Decides a.outer outer).1 same)))

    differs : (a : Outer) → a ≢ outer → (b : Bool) → same_outer a outer ≡ b → same_outer a outer ≡ false
    differs a other true e = absurd (other ((outer_Decides a outer).0 e))
    differs a other false e = e

    pub admit_reused : (n : ℕ) (a : Admission) → unit.health ≡ Works → known ≡ Some (n, counted a) → a.outer ≢ outer → admits ≡ (reply.Reused n, server_of unit)
    admit_reused n a works is other =
        healthy (reply.Reused n, server_of unit) works
        (ap (λ (k : Option (ℕ × of.Admission)). admit_by None k may (server_of unit) wanted) is
        ∙ ap (λ (r : Reply). (r, server_of unit)) (cond-false (same_outer a.outer outer) (reply.Again n) (reply.Reused n) (differs a.outer other (same_outer a.outer outer) refl)))

    pub admit_refused : (fault : OuterFault) → unit.health ≡ Works → known ≡ None → may ≡ Err fault → admits ≡ (reply.Refused fault, server_of unit)
    admit_refused fault works fresh refused =
        healthy (reply.Refused fault, server_of unit) works (ap₂ (λ (k : Option (ℕ × of.Admission)) (says : Result (Unit {0}) OuterFault). admit_by None k says (server_of unit) wanted) fresh refused)

    -- the reply after the write of an admission
    abbrev admitted_by : Option Bar × Server → Reply × Server
    admitted_by did = (unless (reply.New (length (map counted unit.past.admissions) + 1)) did.0, did.1)

    writes : (did : Reply × Server) → unit.health ≡ Works → known ≡ None → may ≡ Ok tt → admitted_by (written (Admits wanted) (server_of unit)) ≡ did → admits ≡ did
    writes did works fresh lets_in e =
        healthy did works (ap₂ (λ (k : Option (ℕ × of.Admission)) (says : Result (Unit {0}) OuterFault). admit_by None k says (server_of unit) wanted) fresh lets_in ∙ e)

    pub admit_new : (rest : Option Fuse) → unit.health ≡ Works → known ≡ None → may ≡ Ok tt → strokes 4 unit.fuse ≡ Done rest →
        admits ≡ (reply.New (length unit.past.admissions + 1), server_of (record unit { past = admitted unit.past new_admission; fuse = rest }))
    admit_new rest works fresh lets_in met =
        writes (reply.New (length unit.past.admissions + 1), server_of (record unit { past = admitted unit.past new_admission; fuse = rest })) works fresh lets_in
        (ap admitted_by (wrote (Admits wanted) (server_of unit) rest met)
        ∙ ap₂ (λ (n : ℕ) (s : Server). (reply.New (n + 1), s)) (length-map unit.past.admissions counted) (sym (admitted_is (record unit { fuse = rest }) new_admission)))

    pub admit_broke : (n : ℕ) (what : Arm) → unit.health ≡ Works → known ≡ None → may ≡ Ok tt → strokes 4 unit.fuse ≡ SetOff n what →
        admits ≡ (barred (bar_of what), server_of (struck unit n what (Admits wanted)))
    admit_broke n what works fresh lets_in met =
        writes (barred (bar_of what), server_of (struck unit n what (Admits wanted))) works fresh lets_in (ap admitted_by (broke unit (Admits wanted) n what met))

  -- turn, where the updates of these units are missing
  module _ (absent : List ℕ) where
    -- what the machine does
    abbrev pub turns : TurnReply × Server
    turns = turn_by (bar_at unit.health) absent (server_of unit)

    pub turn_down : unit.health ≡ IsDown → turns ≡ (turn.Down, server_of unit)
    turn_down is = ap (λ (h : Health). turn_by (bar_at h) absent (server_of unit)) is

    pub turn_failed : unit.health ≡ Failed → turns ≡ (turn.Reopen, server_of unit)
    turn_failed is = ap (λ (h : Health). turn_by (bar_at h) absent (server_of unit)) is

    pub turn_waits : (v : ℕ) (vs : List ℕ) → unit.health ≡ Works → absent ≡ v ∷ vs → turns ≡ (turn.Waiting (unit_set absent), server_of unit)
    turn_waits v vs works are =
        ap₂ (λ (h : Health) (xs : List ℕ). turn_by (bar_at h) xs (server_of unit)) works are ∙ ap (λ (xs : List ℕ). (turn.Waiting (unit_set xs), server_of unit)) (sym are)

    -- the reply after the write of a turn
    abbrev turned_by : Option Bar × Server → TurnReply × Server
    turned_by did = (turn_unless (turn.Took (taken unit.past + 1)) did.0, did.1)

    takes : (did : TurnReply × Server) → unit.health ≡ Works → absent ≡ [] → turned_by (written (Turns (min max_sealed (unsealed unit.past))) (server_of unit)) ≡ did → turns ≡ did
    takes did works none e =
        ap₂ (λ (h : Health) (xs : List ℕ). turn_by (bar_at h) xs (server_of unit)) works none
        ∙ ap (λ (c : Record). turned_by (written c (server_of unit))) (next_is unit)
        ∙ e

    pub turn_took : (updates : List Update) (held : ℕ → ℕ → Option Update) (rest : Option Fuse) → unit.health ≡ Works → absent ≡ [] → strokes 4 unit.fuse ≡ Done rest →
        ((v j : ℕ) → is_some (held v j) ≡ later_than (taken unit.past + 1) (λ v j. is_some (unit.held v j)) v j) →
        turns ≡ (turn.Took (taken unit.past + 1), server_of (record unit { past = turned unit.past updates; held = held; fuse = rest }))
    turn_took updates held rest works none met later =
        takes (turn.Took (taken unit.past + 1), server_of (record unit { past = turned unit.past updates; held = held; fuse = rest })) works none
        (ap turned_by (wrote (Turns (min max_sealed (unsealed unit.past))) (server_of unit) rest met)
        ∙ ap (λ (s : Server). (turn.Took (taken unit.past + 1), s)) (sym (turned_is (record unit { fuse = rest }) updates held later)))

    pub turn_broke : (n : ℕ) (what : Arm) → unit.health ≡ Works → absent ≡ [] → strokes 4 unit.fuse ≡ SetOff n what →
        turns ≡ (turn_barred (bar_of what), server_of (struck unit n what (Turns (min max_sealed (unsealed unit.past)))))
    turn_broke n what works none met =
        takes (turn_barred (bar_of what), server_of (struck unit n what (Turns (min max_sealed (unsealed unit.past))))) works none
        (ap turned_by (broke unit (Turns (min max_sealed (unsealed unit.past))) n what met))
