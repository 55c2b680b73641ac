-- What the answer of an append says of its test beforehand. For those who call it.
use Rattle.std.proofs.Common.{◌≡◌, ◌≢◌, ◌⊎◌, inl, inr, Option, None, Some, IfSome, IsNone, Result, Ok, Err, IfErr, refl, sym, ◌∙◌}
use Rattle.wf_journal.specs.declared.fault.AppendFault.{AppendFault}
use Rattle.wf_journal.specs.declared.fault.AppendFault.TheVariants.{NoMemory, DiskFailed}

-- a refusal that is neither want of memory nor a failure of the disk left all as it was
pub unasked : {K : Type 0} (refusal : Option AppendFault) (result : Result Unit AppendFault) (old new : K) (fault : AppendFault) → IfSome refusal (λ f. (result ≡ Err f) × (new ≡ old))
    → (IsNone refusal → IfErr result (λ f. (f ≡ NoMemory) ⊎ (f ≡ DiskFailed))) → result ≡ Err fault → fault ≢ NoMemory → fault ≢ DiskFailed → new ≡ old
unasked (Some f) result old new fault some none is memory disk = some.1
unasked {K = K} None result old new fault some none is memory disk = go result is (none refl)
  where
    go : (r : Result Unit AppendFault) → r ≡ Err fault → IfErr r (λ f. (f ≡ NoMemory) ⊎ (f ≡ DiskFailed)) → new ≡ old
    go (Ok u) e h = absurd (cc e)
    go (Err f) e (inl m) = let same : f ≡ fault = cc e in absurd (memory (sym same ∙ m))
    go (Err f) e (inr d) = let same : f ≡ fault = cc e in absurd (disk (sym same ∙ d))

-- an append that was done passed the test
pub not_refused : {K : Type 0} (refusal : Option AppendFault) (result : Result Unit AppendFault) (old new : K) → IfSome refusal (λ f. (result ≡ Err f) × (new ≡ old)) → result ≡ Ok tt → refusal ≡ None
not_refused None result old new some is = refl
not_refused (Some f) result old new some is = let both : Ok tt ≡ Err f = sym is ∙ some.0 in absurd (cc both)
