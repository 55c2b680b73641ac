use Rattle.std.proofs.Common.{◌≡◌, ◌∙◌, ℕ, ◌+◌, ◌++◌, List, sym, ap, ap₂, append_assoc, append-nil}
use lib.Chars.{codes}
use Rattle.wf_gen.specs.Draws.{next, draw}
use Rattle.wf_gen.specs.GenScript.{admissions, admit_line}
use Rattle.wf_gen.proofs.Drawn.{after-zero, after-more, draw_on}
use Rattle.wf_gen.proofs.Lists.{admissions-zero, admissions-more}
use Rattle.wf_gen.proofs.script.append_admissions.Goals as goal

four : (a b c d : List ℕ) → ((a ++ b) ++ c) ++ d ≡ a ++ (b ++ (c ++ d))
four a b c d = simp append_assoc

pub loop-q-init : goal.loop-q-init
loop-q-init c =
    (sym (ap (λ (l : List ℕ). c.args.text.now ++ l) (admissions-zero c.args.draws.now) ∙ append-nil c.args.text.now), sym (after-zero c.args.draws.now))

pub loop-q-preserved : goal.loop-q-preserved
loop-q-preserved c =
    let q : ℕ = c.loop-q.q in
    let x : ℕ = c.args.draws.now in
    let line : List ℕ = admit_line (draw x (q + 1) 3) (q + 1) in
    let value : c.draw-d.result ≡ draw x (q + 1) 3 = c.draw-d.ensures.value ∙ draw_on x q c.loop-q.draws c.loop-q.invariant.1 in
    let admitted : c.append_admit.new.text ≡ (c.args.text.now ++ admissions x q) ++ line =
    c.in_ok-append_admit.ensures ∙ ap₂ (λ (l : List ℕ) (d : ℕ). l ++ admit_line d (q + 1)) c.loop-q.invariant.0 value in (
      c.in_ok-append.ensures.ok ∙ ap (λ (l : List ℕ). l ++ codes "round\n") admitted
          ∙ four c.args.text.now (admissions x q) line (codes "round\n")
          ∙ ap (λ (l : List ℕ). c.args.text.now ++ l) (sym (admissions-more x q)),
      c.draw-d.ensures.next ∙ ap next c.loop-q.invariant.1 ∙ sym (after-more q x),
    )
