-- What a crash may leave while a journal is started.
use Rattle.std.proofs.Common.{◌≡◌, ℕ, ◌+◌, ◌≤◌, ◌<◌, true, not, ◌||◌, nat_lt, List, [], ◌∷◌, length, drop, Option, None, Some, IfSome, is_some, Result, Ok, Err, IfErr, refl, sym, ◌∙◌, ap, subst, arith, rules}
use Rattle.std.proofs.lemmas.List.{append-nil, drop_all}
use Rattle.wf_disk.specs.Disk.{Told, put_at, Torn, Follows, Within, Only, IsSame, Elapses, IsLawful, LeavesOnly}
use Rattle.wf_disk.proofs.Runs.{started, goes_on, from_some}
use Rattle.wf_journal.specs.declared.fault.StartFault.{StartFault}
use Rattle.wf_journal.specs.declared.fault.StartFault.TheVariants.{BadFrame}
use Rattle.wf_journal.specs.Frames.{frames_at, bodies_of, end_of, is_broken, can_start, IsAtRest}
use Rattle.wf_journal.specs.Journal.{IsLeftAs, IsLeft, HasBodiesOf, KeepsBodies, IsPlace}

pub short_bodies : (c : List ℕ) → length c ≤ 1 → bodies_of c ≡ []
unfolding bodies_of frames_at
short_bodies [] short = refl
short_bodies (a ∷ []) short = refl
short_bodies (a ∷ b ∷ c) short = absurd (omega arith)

pub short_starts : (c : List ℕ) → length c ≤ 1 → can_start c ≡ true
short_starts c short = let few : nat_lt (length c) 2 ≡ true = search (rules, short) in ap (λ t. t || not (is_broken c)) few

-- a torn write of one byte to a file of no byte or one
pub written_small : (file : List ℕ) (t2 t3 : Told) → Only file t2.may_leave → length file ≤ 1 → Follows (Torn 0 1) t2.may_leave t3.may_leave → (c : List ℕ) → t3.may_leave c → length c ≤ 1
written_small file t2 t3 only2 short follows c now =
    let from = follows c now in
    let torn : Torn 0 1 file c = subst (λ f. Torn 0 1 f c) (only2 from.0 from.1) from.2 in
    omega (arith, torn.no_longer, short)

same_image : (a b : List ℕ) → Some a ≡ Some b → a ≡ b
same_image a b is = cc is

-- the image as it was
pub kept_same : (old new : Told) → new.image ≡ old.image → KeepsBodies old new
kept_same old new same = record {
  tells = ap (λ (o : Option (List ℕ)). is_some o) same;
  bodies = λ old_file new_file was is. ap bodies_of (same_image new_file old_file (sym is ∙ same ∙ was));
  same = λ file was long. same ∙ was;
}

-- a file of no byte or one, over which one was written
pub kept_written : (t0 t1 t2 t3 t4 : Told) (size : ℕ) → IsLawful t3 → t1.image ≡ t0.image → IfSome t0.image (λ f. Only f t1.may_leave) → IfSome t1.image (λ f. size ≡ length f) → size < 2 → IsSame t1 t2
    → is_some t3.image ≡ is_some t2.image → Follows (Torn 0 1) t2.may_leave t3.may_leave → t4.image ≡ t3.image → KeepsBodies t0 t4
kept_written t0 t1 t2 t3 t4 size law image1 synced known few same tells follows image4 = record {
  tells = ap (λ (o : Option (List ℕ)). is_some o) image4 ∙ tells ∙ ap (λ (o : Option (List ℕ)). is_some o) (same.image ∙ image1);
  bodies = λ old_file new_file was is.
      let only1 : Only old_file t1.may_leave = from_some t0.image (λ f. Only f t1.may_leave) old_file synced was in
      let short = short_at old_file was in
      let small : length new_file ≤ 1 = written_small old_file t2 t3 (λ f now. only1 f (same.crash f now)) short follows new_file (law.stands new_file (sym image4 ∙ is)) in
      short_bodies new_file small ∙ sym (short_bodies old_file short);
  same = λ file was long. let short = short_at file was in absurd (omega (arith, short, long));
}
  where
    short_at : (file : List ℕ) → t0.image ≡ Some file → length file ≤ 1
    short_at file was = let is_size : size ≡ length file = from_some t1.image (λ f. size ≡ length f) file known (image1 ∙ was) in omega (arith, is_size, few)

-- a read of a file at rest can begin at its front
pub begins : (file : List ℕ) (place : ℕ) → IsAtRest file place → IsPlace file 0
unfolding end_of is_broken frames_at
begins file place rests = record { end = refl; whole = rests.whole; within = omega (arith, rests.within) }

pub left_begins : (t0 t1 : Told) (place : ℕ) (more : List (List ℕ)) → IsLeft t0 t1 place more → is_some t1.image ≡ is_some t0.image → (file : List ℕ) → t1.image ≡ Some file → IsPlace file 0
left_begins t0 t1 place more left tells file is = go t0.image refl
  where
    go : (o : Option (List ℕ)) → t0.image ≡ o → IsPlace file 0
    go None was = absurd (search (rules, tells, is, was))
    go (Some old) was =
        let new = left old was in
        let same : new.0 ≡ file = same_image new.0 file (sym new.1.image ∙ is) in
        subst (λ f. IsPlace f 0) same (begins new.0 place new.1.settled.rests)

one_gate : IsAtRest (0 ∷ []) 0
unfolding is_broken end_of frames_at
one_gate = record { whole = refl; end = refl; within = omega arith }

one_gate_bodies : bodies_of (0 ∷ []) ≡ []
unfolding bodies_of frames_at
one_gate_bodies = refl

-- a bad frame, as the walk found it, is one of the file as it was at first
pub bad_from : (t0 t1 t2 t3 : Told) (size : ℕ) (r : Result ℕ StartFault) → t1.image ≡ t0.image → t2.image ≡ t1.image → t3.image ≡ t2.image → IfSome t1.image (λ f. size ≡ length f) → 2 ≤ size
    → IfErr r (λ e. (at : ℕ) → e ≡ BadFrame at → (file : List ℕ) → t2.image ≡ Some file → (is_broken file ≡ true) × (end_of file ≡ at))
    → IfErr r (λ e. (at : ℕ) → e ≡ BadFrame at → (file : List ℕ) → t0.image ≡ Some file → (2 ≤ length file × (is_broken file ≡ true) × (end_of file ≡ at) × (t3.image ≡ Some file)))
bad_from t0 t1 t2 t3 size (Ok x) one two three known long has = has
bad_from t0 t1 t2 t3 size (Err e) one two three known long has = λ at is_at file is.
    let same : size ≡ length file = from_some t1.image (λ f. size ≡ length f) file known (one ∙ is) in
    let found = has at is_at file (two ∙ one ∙ is) in
    (omega (arith, same, long), found.0, found.1, three ∙ two ∙ one ∙ is)

module _ (t0 : Told) (file : List ℕ) (law : IsLawful t0) (is : t0.image ≡ Some file) where
  abbrev P : List ℕ → Type 0
  P c = HasBodiesOf t0.may_leave c

  now_has : (c : List ℕ) → t0.may_leave c → P c
  now_has c now = (c, now, refl, λ starts. starts)

  -- after the first sync, done or failed
  pub synced : (t1 : Told) → Within t1.may_leave t0.may_leave → Elapses t0 t1 → LeavesOnly t0 t1 P
  synced t1 within1 time1 = goes_on t0 t0 t1 P (started t0 P law now_has) time1 (λ c now. now_has c (within1 c now))

  -- a gate is written to a disk of no byte or one
  module _ (t2 : Told) (so_far : LeavesOnly t0 t2 P) (only2 : Only file t2.may_leave) (short : length file ≤ 1) (t3 : Told) (follows : Follows (Torn 0 1) t2.may_leave t3.may_leave) (time3 : Elapses t2 t3) where
    after_write : (c : List ℕ) → t3.may_leave c → P c
    after_write c now =
        let small : length c ≤ 1 = written_small file t2 t3 only2 short follows c now in
        (file, law.stands file is, short_bodies c small ∙ sym (short_bodies file short), λ starts. short_starts c small)

    pub written : LeavesOnly t0 t3 P
    written = goes_on t0 t2 t3 P so_far time3 after_write

    pub written_synced : (t4 : Told) → Within t4.may_leave t3.may_leave → Elapses t3 t4 → LeavesOnly t0 t4 P
    written_synced t4 within4 time4 = goes_on t0 t3 t4 P written time4 (λ c now. after_write c (within4 c now))

  pub made_new : (t2 t3 t4 : Told) → length file ≤ 1 → t2.image ≡ Some file → IfSome t2.image (λ f. t3.image ≡ Some (put_at f 0 (0 ∷ []))) → t4.image ≡ t3.image → t4.image ≡ Some (0 ∷ [])
  made_new t2 t3 t4 short image2 write image4 =
      let rest : drop (0 + 1) file ≡ [] = drop_all 1 file short in
      image4 ∙ from_some t2.image (λ f. t3.image ≡ Some (put_at f 0 (0 ∷ []))) file write image2 ∙ ap (λ l. Some (0 ∷ l)) rest

  pub left_new : (t2 t3 t4 : Told) → length file ≤ 1 → t2.image ≡ Some file → IfSome t2.image (λ f. t3.image ≡ Some (put_at f 0 (0 ∷ []))) → t4.image ≡ t3.image → IfSome t3.image (λ f. Only f t4.may_leave)
      → (x : List ℕ) × IsLeftAs file x t4 0 []
  left_new t2 t3 t4 short image2 write image4 sync =
      let rest : drop (0 + 1) file ≡ [] = drop_all 1 file short in
      let image3 : t3.image ≡ Some (0 ∷ []) = from_some t2.image (λ f. t3.image ≡ Some (put_at f 0 (0 ∷ []))) file write image2 ∙ ap (λ l. Some (0 ∷ l)) rest in (
        0 ∷ [],
        record {
          image = image4 ∙ image3;
          settled = record { rests = one_gate; only = from_some t3.image (λ f. Only f t4.may_leave) _ sync image3 };
          bodies = one_gate_bodies ∙ sym (append-nil (bodies_of file) ∙ short_bodies file short);
        },
      )
