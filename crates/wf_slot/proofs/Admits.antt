-- How an admission of a unit that is up ends, by what its server answers.
use Rattle.std.proofs.Common.{◌≡◌, ◌≢◌, inl, inr, ℕ, ◌+◌, false, length, map, Option, Some, None, option_map, Result, Err, refl, sym, ap, ◌∙◌, arith}
use Rattle.wf_model.specs.declared.outer.Outer.{Outer}
use Rattle.wf_model.specs.declared.outer.OuterFault.{OuterFault}
use Rattle.wf_disk.specs.Memory.{Held}
use Rattle.wf_journal.specs.State.{Kept as Journal}
use Rattle.wf_machine.specs.declared.reply.Reply.{Reply}
use Rattle.wf_machine.specs.declared.reply.Reply.TheVariants as reply
use Rattle.wf_machine.specs.Bars.{bar_of, barred}
use Rattle.wf_machine.specs.Strokes.{Done, SetOff, strokes}
use Rattle.wf_machine.specs.Server.{Health, Works}
use Rattle.wf_machine.specs.Lines.{bar_at, asked, admit_by}
use Rattle.wf_histories.specs.Histories.{Admission}
use Rattle.wf_worlds.specs.Admitting.{lets_in}
use Rattle.wf_worlds.specs.Growing.{admitted}
use Rattle.wf_worlds.specs.Worlds.{Admits}
use Rattle.wf_server.specs.Servers.{Server}
use Rattle.wf_server.specs.Answers.{IsNumber, IsNewRequest}
use Rattle.wf_slot.specs.declared.fuse.Fuse.{Fuse as Kept}
use Rattle.wf_slot.specs.Units.{UnitState, counted, server_of}
use Rattle.wf_slot.specs.Fuses.{fuse_of}
use Rattle.wf_slot.specs.Slots.{unit_of, server}
use Rattle.wf_slot.specs.Answers.{IsLetIn}
use Rattle.wf_slot.specs.Seats.{health_by, IsKept}
use Rattle.wf_slot.specs.Writes.{up, struck_at, AdmitAnswered}
use Rattle.wf_slot.proofs.Requests.{asked_at, asked_none}
use Rattle.wf_slot.proofs.Lines.{admit_again, admit_reused, admit_refused, admit_new, admit_broke}
use Rattle.wf_slot.proofs.Seats.{struck_unit}

outer_is : (a b : Outer) → Some a ≡ Some b → a ≡ b
outer_is a b e = cc

no_outer : (a : Outer) → None ≡ Some a → ⊥
no_outer a e = cc

module _ (node : Server Held) (fuse : Option Kept) (request : ℕ) (outer : Outer) (healthy : node.journal.failed ≡ false) where
  abbrev may : Result (Unit {0}) OuterFault
  may = lets_in node.part node.past outer

  abbrev unit : UnitState
  unit = unit_of (up node fuse)

  abbrev a : Admission
  a = record { request = request; outer = outer }

  works : unit.health ≡ Works
  works = ap health_by healthy

  -- THE SERVER STAYS as it is
  module _ (kept : IsKept node.part node.past node.journal.disk fuse None) where
    stays : (r : Reply) → admit_by (bar_at (up node fuse).health) (asked request (server (up node fuse)).admissions) may (server (up node fuse)) (record { request = request; outer = outer }) ≡ (r, server (up node fuse)) →
        AdmitAnswered node fuse request outer node fuse r
    stays r answer = record { answer = answer; writes = inl refl; goes = record { part = refl; clock = omega arith }; kept = kept }

    -- what an admission that has the request is to the machine
    known_at : (n : ℕ) (other : Outer) → IsNumber node.past request n other → (b : Admission) × (asked request (map counted node.past.admissions) ≡ Some (n, counted b)) × (b.outer ≡ other)
    known_at n other is =
        let found = asked_at request is.0 node.past.admissions is.2 in
        (found.0, found.2 ∙ ap (λ (k : ℕ). Some (k, counted found.0)) (sym is.1), outer_is found.0.outer other (sym (ap (option_map (λ (x : Admission). x.outer)) found.1) ∙ is.3))

    pub again : (n : ℕ) → IsNumber node.past request n outer → AdmitAnswered node fuse request outer node fuse (reply.Again n)
    again n is = let known = known_at n outer is in stays (reply.Again n) (admit_again unit request outer may n known.0 works known.1 known.2)

    pub reused : (n : ℕ) (other : Outer) → IsNumber node.past request n other → other ≢ outer → AdmitAnswered node fuse request outer node fuse (reply.Reused n)
    reused n other is differs = let known = known_at n other is in stays (reply.Reused n) (admit_reused unit request outer may n known.0 works known.1 (λ same. differs (sym known.2 ∙ same)))

    pub refused : (fault : OuterFault) → IsNewRequest node request outer (Err fault) → AdmitAnswered node fuse request outer node fuse (reply.Refused fault)
    refused fault is = stays (reply.Refused fault) (admit_refused unit request outer may fault works (asked_none request node.past.admissions is.fresh) is.lets)

  -- THE ADMISSION STANDS
  module _ (letin : IsLetIn (up node fuse) a) where
    pub stands : (j : Journal Held) (rest : Option Kept) → j.failed ≡ false → strokes 4 (fuse_of fuse) ≡ Done (fuse_of rest) → j.disk.clock ≡ node.journal.disk.clock + 4 →
        IsKept node.part (admitted node.past a) j.disk rest None →
        AdmitAnswered node fuse request outer (record node { journal = j; past = admitted node.past a; ready = false }) rest (reply.New (length node.past.admissions + 1))
    stands j rest fine met clock kept =
        record {
          answer = admit_new unit request outer may (fuse_of rest) works (asked_none request node.past.admissions letin.fresh) letin.lets met
              ∙ ap (λ (h : Health). (reply.New (length node.past.admissions + 1), server_of (record unit { health = h; past = admitted node.past a; fuse = fuse_of rest }))) (ap health_by (healthy ∙ sym fine));
          writes = inr (letin, inl (record { past = refl; held = λ v step update e. e; doubt = refl }));
          goes = record { part = refl; clock = omega (arith, clock) };
          kept = kept;
        }

    -- ITS WRITE BROKE OFF
    pub answers_broke : (hit : Kept) (clock : ℕ) → strokes 4 (fuse_of fuse) ≡ SetOff hit.left hit.what →
        admit_by (bar_at (up node fuse).health) (asked request (server (up node fuse)).admissions) may (server (up node fuse)) (record { request = request; outer = outer })
        ≡ (barred (bar_of hit.what), server (struck_at (up node fuse) hit.left hit.what (Admits a) clock))
    answers_broke hit clock met =
        admit_broke unit request outer may hit.left hit.what works (asked_none request node.past.admissions letin.fresh) letin.lets met
        ∙ ap (λ (u : UnitState). (barred (bar_of hit.what), server_of u)) (sym (struck_unit (up node fuse) hit.left hit.what (Admits a) clock))
