-- What follows of the calls `write` and `read`: a good list written and read is itself, with its depth; a sound file of a good list read and written is itself.
-- Each law takes the calls' own definitions. Assumes nothing.
use Rattle.std.proofs.Common.{◌≡◌, ℕ, ◌*◌, ◌<◌, ◌≤◌, List, [], ◌∷◌, ◌++◌, length, get_or, take, drop, refl, ap, subst, inr, arith}
use Rattle.cells.specs.Answer.{given, deepest}
use Rattle.cells.specs.declared.Answer.{Answer}
use Rattle.cells.proofs.Decisions.{passes, refuses_numbered, decided_passed}
use Rattle.records.specs.Record.{Good}
use Rattle.records.specs.Fault.{Faulty}
use Rattle.records.specs.Writing.{stands, TooShort}
use Rattle.records.proofs.Writing.{list_fitting}
use Rattle.records.proofs.Fronts.{Front, Written, left_front, FormSuccess, form_success}
use Rattle.records.proofs.First.{not_faulty, faulty_numbered, good_passes}
use Rattle.blocks.specs.Block.{block_bytes, depth_of, codes}
use Rattle.blocks.specs.File.{blocks_of, file_of}
use Rattle.blocks.specs.Calls.{ReadAnswer, Unsound, unread, ReadOf, WriteOf}
use Rattle.blocks.specs.Inner.{Sound}
use Rattle.blocks.proofs.Sound.{shallow_file, unsound_numbered, sound_passes, not_unsound}
use Rattle.blocks.proofs.Files.{file_length}
use Rattle.blocks.proofs.RoundTrip.{file_sound, file_depth, file_codes, same_file}
use Rattle.blocks.proofs.CallLaws.{one_read, one_write}

-- ---- what success says

-- of `write`
pub write_success : (D : ℕ) (l o : List ℕ) (r : Answer) (after : List ℕ) → WriteOf D l o r after → r.number ≡ 0 → FormSuccess D l (file_of D l) o r after
write_success D l o = form_success D l (file_of D l) o

-- of `read`
pub record ReadSuccess (b o : List ℕ) (r : ReadAnswer) (after : List ℕ) : Type 0 where
  pub is_sound : Sound b
  pub good : Good (depth_of b) (codes b)
  pub is_depth : r.depth ≡ depth_of b
  pub is_left : Written (codes b) o r.answer after
  pub front : Front (codes b) r.answer.place after

pub read_success : (b o : List ℕ) (r : ReadAnswer) (after : List ℕ) → ReadOf b o r after → r.answer.number ≡ 0 → ReadSuccess b o r after
read_success b o r after d z =
    let ((unsound, (clean, _)), e) = decided_passed (λ t. t.0.answer.number) (unread o) (λ x. refl) (Unsound b ∷ Faulty (depth_of b) (codes b) 1 ∷ TooShort (length (codes b)) o ∷ [])
    (λ t. t ≡ (record { answer = given (length (codes b)); depth = depth_of b }, stands (codes b) o)) (r, after)
    (unsound_numbered b, (faulty_numbered (depth_of b) (codes b) 1, (refuses_numbered (λ x. omega arith), tt))) z d in
    let left : Written (codes b) o r.answer after = ap (λ (t : ReadAnswer × List ℕ). (t.0.answer, t.1)) e in
    record {
      is_sound = not_unsound b unsound;
      good = not_faulty (depth_of b) (codes b) 1 clean;
      is_depth = ap (λ (t : ReadAnswer × List ℕ). t.0.depth) e;
      is_left = left;
      front = left_front (codes b) o r.answer after left;
    }

-- ---- the answers that fit

-- the file of a good list; its length in numbers
pub writes_good : (D : ℕ) (l o : List ℕ) → D ≤ deepest → Good D l → block_bytes * blocks_of (length l) ≤ length o
    → WriteOf D l o (given (block_bytes * blocks_of (length l))) (file_of D l ++ drop (block_bytes * blocks_of (length l)) o)
writes_good D l o h g room =
    let n = file_length D l in
    subst (λ (n : ℕ). WriteOf D l o (given n) (file_of D l ++ drop n o)) n (list_fitting (file_of D l) o D l h g (omega arith))

pub reads_file : (D : ℕ) (l o : List ℕ) → D ≤ deepest → Good D l → length l ≤ length o → ReadOf (file_of D l) o (record { answer = given (length l); depth = D }) (stands l o)
reads_file D l o h g room =
    inr (sound_passes (file_of D l) (file_sound D l h g), rw (file_depth D l h g, file_codes D l h g) (inr (good_passes D l 1 g, inr (passes (λ x. omega arith), refl))))

pub writes_codes : (b o : List ℕ) → Sound b → ((k : ℕ) → get_or b k 0 < 256) → Good (depth_of b) (codes b) → length b ≤ length o → WriteOf (depth_of b) (codes b) o (given (length b)) (stands b o)
writes_codes b o s small g room =
    subst (λ (f : List ℕ). WriteOf (depth_of b) (codes b) o (given (length f)) (stands f o)) (same_file b s small)
    (list_fitting (file_of (depth_of b) (codes b)) o (depth_of b) (codes b) (shallow_file b s) g (omega (arith, ap length (same_file b s small))))

-- ---- there and back

-- a good list that was written, read from the bytes written: itself, with its depth
pub written_read : (D : ℕ) (l o : List ℕ) (r : Answer) (o' : List ℕ) → WriteOf D l o r o' → r.number ≡ 0
    → (q : List ℕ) (s : ReadAnswer) (q' : List ℕ) → ReadOf (take r.place o') q s q' → length l ≤ length q
    → (s ≡ record { answer = given (length l); depth = D }) × (q' ≡ stands l q)
written_read D l o r o' w z q s q' d room =
    let k = write_success D l o r o' w z in
    let e = one_read (file_of D l) q (s, q') (record { answer = given (length l); depth = D }, stands l q) (subst (λ (b : List ℕ). ReadOf b q s q') k.front.is_front d) (reads_file D l q k.shallow k.good room) in
    (ap (λ (t : ReadAnswer × List ℕ). t.0) e, ap (λ (t : ReadAnswer × List ℕ). t.1) e)

-- a file of bytes that was read, its list written at its depth: itself
pub read_written : (b o : List ℕ) (r : ReadAnswer) (o' : List ℕ) → ReadOf b o r o' → r.answer.number ≡ 0 → ((k : ℕ) → get_or b k 0 < 256)
    → (q : List ℕ) (a : Answer) (q' : List ℕ) → WriteOf r.depth (take r.answer.place o') q a q' → length b ≤ length q
    → (a ≡ given (length b)) × (q' ≡ stands b q)
read_written b o r o' d z small q a q' w room =
    let k = read_success b o r o' d z in
    let w' : WriteOf (depth_of b) (codes b) q a q' = rw (k.is_depth, k.front.is_front) at w in
    let e = one_write (depth_of b) (codes b) q (a, q') (given (length b), stands b q) w' (writes_codes b q k.is_sound small k.good room) in
    (ap (λ (t : Answer × List ℕ). t.0) e, ap (λ (t : Answer × List ℕ). t.1) e)
