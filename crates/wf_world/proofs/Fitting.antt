-- What the lines of a chart name.
use Rattle.std.proofs.Common.{◌≡◌, ◌≢◌, ℕ, ◌<◌, ◌≤◌, ◌==◌, ◌&&◌, not, nat_lt, nat_le, true, false, length, sym, ap, ◌∙◌, rules, eq-eqb}
use Rattle.wf_model.specs.Limits.{max_int}
use Rattle.wf_model.specs.declared.ids.UnitId.{UnitId}
use Rattle.wf_model.specs.declared.outer.Outer.{Outer}
use Rattle.wf_model.specs.declared.chart.Chart.{Chart}
use Rattle.wf_model.specs.Accepted.{is_unit}
use Rattle.wf_model.proofs.Bools.{and_both}
use Rattle.wf_disk.specs.declared.arm.Arm.{Arm}
use Rattle.wf_disk.specs.declared.arm.Outcome.{Outcome}
use Rattle.wf_machine.specs.declared.line.Line.TheVariants as line
use Rattle.wf_machine.specs.Fits.{is_known_outer, is_line}

within : (chart : Chart) (u : UnitId) → is_unit chart u ≡ true → u.0 < length chart.units
within chart u e = search (rules, e)

module _ (chart : Chart) (u : UnitId) where
  pub admit_at : (request : ℕ) (outer : Outer) → is_line chart (line.Admit u request outer) ≡ true → u.0 < length chart.units
  unfolding is_line
  admit_at request outer e = within chart u (and_both (is_unit chart u) (nat_le request max_int && is_known_outer chart outer) e).0

  pub turn_at : is_line chart (line.Turn u) ≡ true → u.0 < length chart.units
  unfolding is_line
  turn_at e = within chart u e

  pub crash_at : (outcome : Outcome) → is_line chart (line.Crash u outcome) ≡ true → u.0 < length chart.units
  unfolding is_line
  crash_at outcome e = within chart u e

  pub recover_at : is_line chart (line.Recover u) ≡ true → u.0 < length chart.units
  unfolding is_line
  recover_at e = within chart u e

  pub show_at : is_line chart (line.Show u) ≡ true → u.0 < length chart.units
  unfolding is_line
  show_at e = within chart u e

  pub items_at : is_line chart (line.Items u) ≡ true → u.0 < length chart.units
  unfolding is_line
  items_at e = within chart u e

  pub arm_at : (n : ℕ) (what : Arm) → is_line chart (line.Arm u n what) ≡ true → (u.0 < length chart.units) × (1 ≤ n) × (n ≤ 1000)
  unfolding is_line
  arm_at n what e =
      let both = and_both (is_unit chart u) (nat_lt 0 n && nat_le n 1000) e in
      let numbers = and_both (nat_lt 0 n) (nat_le n 1000) both.1 in
      let least : 1 ≤ n = search (rules, numbers.0) in
      let most : n ≤ 1000 = search (rules, numbers.1) in
      (within chart u both.0, least, most)

  pub send_between : (v : UnitId) → is_line chart (line.Send u v) ≡ true → (u.0 < length chart.units) × (v.0 < length chart.units) × (u.0 ≢ v.0)
  unfolding is_line
  send_between v e =
      let both = and_both (is_unit chart u) (is_unit chart v && not (u.0 == v.0)) e in
      let rest = and_both (is_unit chart v) (not (u.0 == v.0)) both.1 in
      (within chart u both.0, within chart v rest.0, λ same. let yes : (u.0 == v.0) ≡ true = eq-eqb u.0 v.0 same in clash (sym (ap not yes) ∙ rest.1))
    where
      clash : false ≡ true → ⊥
      clash x = cc
