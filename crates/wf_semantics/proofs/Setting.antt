-- What the walk rests on, without the chart.
use Rattle.std.proofs.Common.{◌≡◌, ℕ, ◌<◌, ◌≤◌, ◌==◌, ◌||◌, ◌⊎◌, Bool, true, false, Option, Some, None}
use Rattle.std.specs.Bool.{⊤}
use Rattle.wf_model.specs.Tree.{is_among}
use Rattle.wf_semantics.specs.Configuration.{Tree, Trees, Leaf, OrNode, AndNode, NoTrees, More, root, roots}

-- a child's tree hangs under its parent, and the trees of an And state have different roots; `par` holds of And states
abbrev mutual
  pub IsShaped : (ℕ → Option ℕ) → (ℕ → Type 0) → Tree → Type 0
  IsShaped up par (Leaf s) = ⊤
  IsShaped up par (OrNode s c) = (up (root c) ≡ Some s) × IsShaped up par c
  IsShaped up par (AndNode s cs) = par s × AreShaped up par s cs

  pub AreShaped : (ℕ → Option ℕ) → (ℕ → Type 0) → ℕ → Trees → Type 0
  AreShaped up par s NoTrees = ⊤
  AreShaped up par s (More c cs) =
      (up (root c) ≡ Some s) × (is_among (roots cs) (root c) ≡ false) × IsShaped up par c × AreShaped up par s cs

pub record IsAncestry (up : ℕ → Option ℕ) (above : ℕ → ℕ → Bool) : Type 0 where
  pub step : (s p a : ℕ) → up s ≡ Some p → above a s ≡ ((p == a) || above a p)
  pub low : (a s : ℕ) → above a s ≡ true → a < s
  pub trans : (a b c : ℕ) → above a b ≡ true → above b c ≡ true → above a c ≡ true
  pub compare : (a b s : ℕ) → above a s ≡ true → above b s ≡ true → (a ≡ b) ⊎ ((above a b ≡ true) ⊎ (above b a ≡ true))

-- E t: t is enabled
pub record IsSetting (up : ℕ → Option ℕ) (par : ℕ → Type 0) (above : ℕ → ℕ → Bool) (E : ℕ → Type 0) (sc src : ℕ → ℕ) (first : ℕ → Option ℕ) : Type 0 where
  pub ancestry : IsAncestry up above
  pub scope_above : (t : ℕ) → E t → above (sc t) (src t) ≡ true
  pub no_scope : (s : ℕ) → par s → (b : ℕ) → E b → sc b ≡ s → ⊥
  pub first_some : (s t : ℕ) → first s ≡ Some t → E t × (sc t ≡ s) × ((b : ℕ) → E b → sc b ≡ s → t ≤ b)
  pub first_none : (s : ℕ) → first s ≡ None → (b : ℕ) → E b → sc b ≡ s → ⊥
