-- The end of a unit.
use Rattle.std.proofs.Common.{◌≡◌, ◌≢◌, inl, inr, ℕ, if◌then◌else◌, Bool, true, false, length, Option, Some, None, option_map, refl, sym, ap, ◌∙◌, subst, arith}
use Rattle.wf_disk.specs.Memory.{Held}
use Rattle.wf_machine.specs.declared.reply.Reply.{Reply}
use Rattle.wf_machine.specs.Bars.{Bar}
use Rattle.wf_machine.specs.Strokes.{strokes}
use Rattle.wf_machine.specs.Server.{Health, Works, Failed, IsDown, Record as Counted, Admits, Turns, Server as Counting, settled, recovered, stand}
use Rattle.wf_machine.specs.Runs.{is_lost}
use Rattle.wf_histories.specs.Histories.{History, taken}
use Rattle.wf_worlds.specs.Worlds.{Record}
use Rattle.wf_server.specs.Servers.{Server}
use Rattle.wf_slot.specs.declared.fuse.Fuse.{Fuse as Kept}
use Rattle.wf_slot.specs.declared.slot.Doubt.{Doubt}
use Rattle.wf_slot.specs.declared.slot.Seat.{Seat}
use Rattle.wf_slot.specs.declared.slot.Seat.TheVariants.{Up}
use Rattle.wf_slot.specs.Slots.{SlotState, counted_record, unit_of, server}
use Rattle.wf_slot.specs.Answers.{Goes, RecoveryWrites, RecoverAnswers, Ends, counts_if_lost}
use Rattle.wf_slot.specs.Seats.{doubt_of, state_of, IsSlot}
use Rattle.wf_slot.proofs.Endings.{works_on, is_recovered}
use Rattle.wf_slot.proofs.Seats.{seen, sits}

-- a unit that works has nothing in doubt
pub works_certain : (seat : Seat) (fuse : Option Kept) (doubt : Option Doubt) (now : SlotState) → state_of seat fuse doubt ≡ now → IsSlot seat fuse doubt → (node : Server Held) → seat ≡ Up node → node.journal.failed ≡ false → now.doubt ≡ None
works_certain seat fuse doubt now view kept node is healthy =
    ap (λ (s : SlotState). s.doubt) (seen seat (Up node) fuse doubt is now view) ∙ ap doubt_of ((sits seat (Up node) fuse doubt is kept).1 healthy)

module _ (old mid : SlotState) (is : mid ≡ record old { fuse = None }) where
  health_is : mid.health ≡ old.health
  health_is = ap (λ (s : SlotState). s.health) is

  server_is : server mid ≡ server (record old { fuse = None })
  server_is = ap server is

  -- it works
  module _ (works : mid.health ≡ Works) (certain : mid.doubt ≡ None) where
    worked : old.health ≡ Works
    worked = sym health_is ∙ works

    pub calm_ends : Ends old mid
    calm_ends = record {
      stands = false;
      server = works_on false (unit_of old) worked ∙ sym server_is;
      works = works;
      unarmed = ap (λ (s : SlotState). s.fuse) is;
      certain = certain;
    }

    pub calm_writes : RecoveryWrites old mid
    calm_writes =
        let P : SlotState → Type 0 = λ s. (s.doubt ≡ None) → RecoveryWrites old s in
        subst P (sym is) (λ none. inl (refl, λ v step update e. e, inl none)) certain

    pub calm_goes : Goes 1 old mid
    calm_goes = subst (λ (s : SlotState). Goes 1 old s) (sym is) (record { part = refl; clock = omega arith })

    pub calm_counts : ◌≡◌ {A = Option (ℕ × ℕ)} None (counts_if_lost old mid)
    calm_counts = ap (λ (h : Health). if is_lost h then Some (taken mid.past, length mid.past.admissions) else None) (sym worked)

  -- it was lost, and was recovered
  module _ (lost : mid.health ≢ Works) (new : SlotState) (r : Reply) (answers : RecoverAnswers mid r new) where
    was_lost : old.health ≢ Works
    was_lost e = lost (health_is ∙ e)

    did : recovered answers.0 (server (record old { fuse = None })) ≡ (answers.1, server new)
    did = ap (recovered answers.0) (sym server_is) ∙ answers.2

    stood_certain : (c : Counted) (s : Counting) → (stand c (record s { doubt = None })).doubt ≡ None
    unfolding stand
    stood_certain (Admits a) s = refl
    stood_certain (Turns n) s = refl

    settled_certain : (b : Bool) (doubt : Option Counted) (s : Counting) → s.doubt ≡ doubt → (settled b doubt s).doubt ≡ None
    settled_certain b None s e = e
    settled_certain true (Some c) s e = stood_certain c s
    settled_certain false (Some c) s e = refl

    new_works : (server new).health ≡ Works
    unfolding recovered strokes
    new_works = sym (ap (λ (x : Option Bar × Counting). x.1.health) did)

    new_unarmed : (server new).fuse ≡ None
    unfolding recovered strokes
    new_unarmed = sym (ap (λ (x : Option Bar × Counting). x.1.fuse) did)

    new_certain : (server new).doubt ≡ None
    unfolding recovered strokes
    new_certain = sym (ap (λ (x : Option Bar × Counting). x.1.doubt) did) ∙ settled_certain answers.0 (server old).doubt (server (record old { fuse = None })) refl

    none_by : (past : History) (d : Option Record) → option_map (counted_record past) d ≡ None → d ≡ None
    none_by past None e = refl
    none_by past (Some x) e = absurd (no_some (counted_record past x) e)
      where
        no_some : (c : Counted) → Some c ≡ None → ⊥
        no_some c e = cc

    pub lost_ends : Ends old new
    lost_ends = record {
      stands = answers.0;
      server = is_recovered answers.0 (unit_of old) (unit_of new) answers.1 was_lost did;
      works = new_works;
      unarmed = new_unarmed;
      certain = none_by new.past new.doubt new_certain;
    }

    pub lost_writes : RecoveryWrites mid new → RecoveryWrites old new
    lost_writes writes =
        let P : SlotState → Type 0 = λ s. RecoveryWrites s new in
        back (subst P is writes)
      where
        back : RecoveryWrites (record old { fuse = None }) new → RecoveryWrites old new
        back (inl w) = inl w
        back (inr w) = inr (w.0, w.1, record { past = w.2.past; held = w.2.held; doubt = w.2.doubt })

    pub lost_goes : Goes 1 mid new → Goes 1 old new
    lost_goes goes =
        let part : mid.part ≡ old.part = ap (λ (s : SlotState). s.part) is in
        let clock : mid.clock ≡ old.clock = ap (λ (s : SlotState). s.clock) is in
        let most = goes.clock in
        record { part = goes.part ∙ part; clock = omega (arith, most, clock) }

    lost_by : (h : Health) → h ≢ Works → is_lost h ≡ true
    lost_by Works differs = absurd (differs refl)
    lost_by Failed differs = refl
    lost_by IsDown differs = refl

    pub lost_counts : (k n : ℕ) → k ≡ taken new.past → n ≡ length new.past.admissions → Some (k, n) ≡ counts_if_lost old new
    lost_counts k n k_is n_is =
        ap (λ (x : ℕ). Some (x, n)) k_is ∙ ap (λ (y : ℕ). Some (taken new.past, y)) n_is
        ∙ ap (λ (b : Bool). if b then Some (taken new.past, length new.past.admissions) else None) (sym (lost_by old.health was_lost))

    pub lost_calm : old.health ≡ Works → new ≡ record old { fuse = None }
    lost_calm works = absurd (was_lost works)
