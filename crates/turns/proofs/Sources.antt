-- A voxel and the one that it came from: `source_of`, worked out label by label, is the source that the turn names. So a turn takes each voxel of the root to one of
-- the root, and no two to the same. Assumes nothing.
use mathlib.Core.Path.{◌≡◌, refl, sym, ap, ◌∙◌, subst}
use mathlib.Core.Logic.{◌↔◌}
use mathlib.Core.Bool.{true}
use mathlib.Core.List.{List}
use Prim.Native.Nat.{ℕ, zero, suc, ◌+◌, ◌*◌, ◌/◌, ◌%◌, ◌^◌, ◌<◌}
use native.Mathlib.Omega.{arith}
use Rattle.cells.specs.Place.{along}
use Rattle.cells.proofs.Places.{each_axis, along_step, same_voxel}
use Rattle.cells.proofs.Power.{pow2_suc}
use Rattle.records.specs.Record.{black}
use Rattle.records.specs.Carried.{FromBlack}
use Rattle.records.proofs.Carrying.{Carrying}
use Rattle.turns.specs.Turns.{Quarter, Turned}
use Rattle.turns.specs.Inner.{from_label, source_label, relabel, source_of, turned}
use Rattle.turns.proofs.Relabels.{relabel_same, relabel_none, relabel_lt, relabel_then}
use Rattle.turns.proofs.Labels.{from_lt, from_x, from_y, from_z, source_lt, source_before, source_modulo}

-- ---- one turn, along each axis

-- where the bit b of each label's source is the label's bit b', so is the coordinate
along_kept : (b b' : ℕ) → ((m : ℕ) → from_label m / b % 2 ≡ m / b' % 2) → (k v : ℕ) → along b' k v ≡ along b k (relabel from_label k v)
unfolding along relabel
along_kept b b' bits zero v = refl
along_kept b b' bits (suc k) v =
    omega (arith, along_kept b b' bits k (v / 8), bits (v % 8), along_step b k (relabel from_label k (v / 8)) (from_label (v % 8)) (from_lt (v % 8)))

-- and x is 2 ^ k - 1 less the y of the source
along_turned : (k v : ℕ) → along 1 k v + along 2 k (relabel from_label k v) + 1 ≡ 2 ^ k
unfolding along relabel
along_turned zero v = refl
along_turned (suc k) v =
    omega (arith, along_turned k (v / 8), from_y (v % 8), pow2_suc k, along_step 2 k (relabel from_label k (v / 8)) (from_label (v % 8)) (from_lt (v % 8)))

module _ (D : ℕ) where
  quarter_source : (v : ℕ) → v < 8 ^ D → Quarter D (relabel from_label D v) v
  quarter_source v h = record { root = h; x = along_turned D v; y = along_kept 1 2 from_x D v; z = along_kept 4 4 from_z D v }

  -- a voxel came by one turn from one voxel
  one_quarter : (w w' v : ℕ) → w < 8 ^ D → w' < 8 ^ D → Quarter D w v → Quarter D w' v → w ≡ w'
  one_quarter w w' v h h' q q' = same_voxel D w w' h h' (each_axis (λ a. along (2 ^ a) D w ≡ along (2 ^ a) D w') (sym q.y ∙ q'.y) (omega (arith, q.x, q'.x)) (sym q.z ∙ q'.z))

  -- ---- n turns

  pub source_in : (n v : ℕ) → source_of n D v < 8 ^ D
  source_in n v = relabel_lt (source_label n) (source_lt n) D v

  -- no turn
  source_none : (v : ℕ) → v < 8 ^ D → source_of 0 D v ≡ v
  unfolding source_label
  source_none v h = relabel_same (source_label 0) (λ m. m) (λ m l. refl) D v ∙ relabel_none D v h

  -- one turn, and n before it
  source_suc : (n v : ℕ) → source_of n D (relabel from_label D v) ≡ source_of (suc n) D v
  unfolding source_label
  source_suc n v = relabel_then from_label (λ m l. from_lt m) (source_label n) D v ∙ relabel_same (λ m. source_label n (from_label m)) (source_label (suc n)) (λ m l. refl) D v

  -- turn numbers that are the same modulo four
  source_alike : (n k v : ℕ) → n % 4 ≡ k % 4 → source_of n D v ≡ source_of k D v
  source_alike n k v e = relabel_same (source_label n) (source_label k) (λ m h. sym (source_modulo n m h) ∙ ap (λ (j : ℕ). source_label j m) e ∙ source_modulo k m h) D v

  -- n turns, and k before them, are j turns
  source_sum : (n k j v : ℕ) → (k + n) % 4 ≡ j % 4 → source_of k D (source_of n D v) ≡ source_of j D v
  source_sum n k j v e =
      relabel_then (source_label n) (source_lt n) (source_label k) D v ∙ relabel_same (λ m. source_label k (source_label n m)) (source_label (k + n)) (λ m l. source_before n k m) D v ∙ source_alike (k + n) j v e

  -- three times as many turns and n turns bring a voxel back
  pub source_target : (n v : ℕ) → v < 8 ^ D → source_of n D (source_of (3 * n) D v) ≡ v
  source_target n v h = source_sum (3 * n) n 0 v (omega arith) ∙ source_none v h

  -- what n turns take to v is its source
  pub turned_from : (n u v : ℕ) → Turned D n u v → (v < 8 ^ D) × (u ≡ source_of n D v)
  unfolding Turned
  turned_from zero u v (h, e) = (h, e ∙ sym (source_none v h))
  turned_from (suc n) u v (w, t, q) =
      let (h, e) = turned_from n u w t in
      let same = one_quarter w (relabel from_label D v) v h (relabel_lt from_label (λ m l. from_lt m) D v) q (quarter_source v q.root) in
      (q.root, e ∙ ap (source_of n D) same ∙ source_suc n v)

  pub turned_source : (n v : ℕ) → v < 8 ^ D → Turned D n (source_of n D v) v
  unfolding Turned
  turned_source zero v h = (h, source_none v h)
  turned_source (suc n) v h =
      let w : ℕ = relabel from_label D v in
      (w, subst (λ (u : ℕ). Turned D n u w) (source_suc n v) (turned_source n w (relabel_lt from_label (λ m l. from_lt m) D v)), quarter_source v h)

  turned_to : (n u v : ℕ) → v < 8 ^ D → u ≡ source_of n D v → Turned D n u v
  turned_to n u v h e = subst (λ (x : ℕ). Turned D n x v) (sym e) (turned_source n v h)

  -- where a voxel comes to
  pub turned_target : (n u : ℕ) → u < 8 ^ D → Turned D n u (source_of (3 * n) D u)
  turned_target n u h = turned_to n u (source_of (3 * n) D u) (source_in (3 * n) u) (sym (source_target n u h))

  target_is : (n u v : ℕ) → Turned D n u v → v ≡ source_of (3 * n) D u
  target_is n u v t = let (h, e) = turned_from n u v t in sym (source_none v h) ∙ sym (source_sum n (3 * n) 0 v (omega arith)) ∙ ap (source_of (3 * n) D) (sym e)

  pub turning : (n : ℕ) → Carrying D (Turned D n)
  turning n = record {
    root = λ u v t. (turned_from n u v t).0;
    one_target = λ u v v' t t'. target_is n u v t ∙ sym (target_is n u v' t');
    one_source = λ u u' v _ _ t t'. (turned_from n u v t).1 ∙ sym (turned_from n u' v t').1;
  }

  -- ---- turns add up modulo four

  pub turned_sum : (m n u v w : ℕ) → Turned D m u v → Turned D n v w → Turned D ((m + n) % 4) u w
  turned_sum m n u v w t t' =
      let (_, e) = turned_from m u v t in
      let (h, e') = turned_from n v w t' in
      turned_to ((m + n) % 4) u w h (e ∙ ap (source_of m D) e' ∙ source_sum n m ((m + n) % 4) w (omega arith))

  pub turned_rest : (m n u v w : ℕ) → Turned D ((m + n) % 4) u w → Turned D m u v → Turned D n v w
  turned_rest m n u v w t t' =
      let (h, e) = turned_from ((m + n) % 4) u w t in
      turned_to n v w h (target_is m u v t' ∙ ap (source_of (3 * m) D) e ∙ source_sum ((m + n) % 4) (3 * m) n w (omega arith))

  -- ---- the voxels of a list after n turns

  pub turned_exactly : (l : List ℕ) (n v : ℕ) → v < 8 ^ D → (turned D l n v ≡ true) ↔ FromBlack (Turned D n) (black D l) v
  turned_exactly l n v h = (λ b. (source_of n D v, b, turned_source n v h), λ (u, b, t). ap (black D l) (sym (turned_from n u v t).1) ∙ b)
