-- The fields of a disk in memory after one stroke more.
use Rattle.std.proofs.Common.{◌≡◌, inl, ℕ, ◌+◌, ◌≤◌, max, true, List, [], ◌∷◌, ◌++◌, length, drop, sym, ◌∙◌, ap, subst, arith, length-append}
use Rattle.std.proofs.lemmas.List.{drop-append-le, drop_all}
use Rattle.wf_disk.specs.Disk.{put_at}
use Rattle.wf_disk.specs.Strokes.{Stroke, image_after, are_fit, are_writes, first_state, state_after}
use Rattle.wf_disk.specs.Memory.{IsSound}
use Rattle.wf_disk.proofs.Replays.{length-put_at, fit_more, fit_write, fit_sync, image_after-more, are_writes-more}
use Rattle.wf_disk.proofs.Tells.{only_sync}

pub sound_write : (image image' first : List ℕ) (strokes strokes' : List Stroke) (synced synced' room at : ℕ) (bytes : List ℕ) → IsSound image first strokes synced room
    → image' ≡ put_at image at bytes → strokes' ≡ strokes ++ Stroke.Wrote at bytes ∷ [] → synced' ≡ synced → at ≤ length image → length image + length bytes ≤ room
    → IsSound image' first strokes' synced' room
sound_write image image' first strokes strokes' synced synced' room at bytes was put more same begins ends =
    let size : length image' ≡ max (length image) (at + length bytes) = ap length put ∙ length-put_at image at bytes begins in
    let inside : at ≤ length (image_after first strokes) = subst (λ (f : List ℕ). at ≤ length f) was.replayed begins in
    let count : length strokes' ≡ length strokes + 1 = ap length more ∙ length-append strokes (Stroke.Wrote at bytes ∷ []) in
    let fit : are_fit (length first) (length image') strokes ≡ true = fit_more (length first) (length image) (length image') strokes (omega (arith, size)) was.fit in
    let later : drop synced strokes' ≡ drop synced strokes ++ Stroke.Wrote at bytes ∷ [] = ap (drop synced) more ∙ drop-append-le synced strokes (Stroke.Wrote at bytes ∷ []) was.within in
    record {
      replayed = put ∙ ap (λ f. put_at f at bytes) was.replayed ∙ sym (image_after-more first strokes (Stroke.Wrote at bytes ∷ [])) ∙ ap (image_after first) (sym more);
      clean = λ all. absurd (omega (arith, all, same, count, was.within));
      fit = subst (λ (s : List Stroke). are_fit (length first) (length image') s ≡ true) (sym more) (fit_write first (length image') at bytes strokes fit inside (omega (arith, size)));
      within = omega (arith, same, count, was.within);
      unsynced = ap (λ k. are_writes (drop k strokes')) same ∙ ap are_writes later ∙ are_writes-more (drop synced strokes) at bytes was.unsynced;
      spare = omega (arith, size, ends, begins);
    }

pub sound_sync : (image first : List ℕ) (strokes strokes' : List Stroke) (synced synced' room : ℕ) → IsSound image first strokes synced room
    → strokes' ≡ strokes ++ Stroke.Synced ∷ [] → synced' ≡ length strokes + 1 → IsSound image first strokes' synced' room
sound_sync image first strokes strokes' synced synced' room was more all =
    let count : length strokes' ≡ length strokes + 1 = ap length more ∙ length-append strokes (Stroke.Synced ∷ []) in
    record {
      replayed = was.replayed ∙ sym (image_after-more first strokes (Stroke.Synced ∷ [])) ∙ ap (image_after first) (sym more);
      clean = λ _ c may.
          only_sync first strokes c (inl (subst (λ (s : List Stroke). (state_after (first_state first) s).may c) more may)) ∙ sym was.replayed;
      fit = subst (λ (s : List Stroke). are_fit (length first) (length image) s ≡ true) (sym more) (fit_sync (length first) (length image) strokes was.fit);
      within = omega (arith, all, count);
      unsynced = ap are_writes (drop_all synced' strokes' (omega (arith, all, count)));
      spare = was.spare;
    }
