-- Ticket 5: the plain engine accepts what the list engine accepts and gives the same voxels, at each of its depths; a list as bits and back is the list, and bits as a
-- list and back are the bits. Assumes nothing.
use mathlib.Core.Path.{◌≡◌, refl, sym, ap, ap₂, ◌∙◌, subst⁻¹}
use mathlib.Core.Logic.{◌⊎◌, ◌↔◌, inl, inr, ⊎_elim}
use mathlib.Core.Bool.{Bool, true, false}
use mathlib.Core.List.{List, [], ◌∷◌}
use Prim.Native.Nat.{ℕ, ◌*◌, ◌^◌, ◌<◌, ◌≤◌}
use native.Mathlib.Nat.{eq-or-lt_of_le}
use native.Mathlib.Omega.{arith}
use lib.IntN.{ℤ}
use lib.ListN.{length, get_or, take}
use Rattle.cells.specs.Answer.{answer, given, Decided, alone, keeping, deepest, First, TooDeep}
use Rattle.cells.specs.Cell.{holds}
use Rattle.cells.specs.Place.{axes, number, Came}
use Rattle.cells.specs.declared.Answer.{Answer}
use Rattle.cells.proofs.Bools.{same_truth, clash}
use Rattle.cells.proofs.Decisions.{one_refuses_first, passes, deep_enough, decided_past, decided_both}
use Rattle.cells.proofs.Firsts.{first_or_none}
use Rattle.cells.proofs.Places.{number_lt}
use Rattle.cells.proofs.Power.{le_or_lt}
use Rattle.records.specs.Record.{black, Good, ListOf}
use Rattle.records.specs.Carried.{FromBlack, Strays}
use Rattle.records.specs.Lookups.{LookupAnswer, NoVoxel, unseen, seen, SeenIn, LookupOf}
use Rattle.records.specs.Fault.{Faulty}
use Rattle.records.proofs.Fault.{member_at, index_of, in_order}
use Rattle.records.proofs.First.{good_passes, not_faulty, faulty_numbered}
use Rattle.records.proofs.Leaves.{member_black, leaf_of}
use Rattle.records.proofs.Lists.{holds_true, black_in_root}
use Rattle.records.proofs.OneList.{one_list, list_of_itself}
use Rattle.records.proofs.Sizes.{one_seen, same_largest}
use Rattle.sets.specs.Sets.{Chosen, SetOf}
use Rattle.sets.specs.declared.Op.{Op}
use Rattle.sets.specs.declared.Op.TheVariants.{Join, Intersect, Subtract}
use Rattle.metres.specs.Metres.{move_tests}
use Rattle.metres.specs.declared.Move.{Move}
use Rattle.metres.proofs.TakenLaws.{one_move_tests, move_tests_five, one_becomes}
use Rattle.moves.specs.Moves.{ShiftOf, ByVoxels, MoveOf}
use Rattle.moves.proofs.Acceptance.{accepted_exactly}
use Rattle.plain.specs.Bits.{bytes_for, bit_at, black_in, BitsOf}
use Rattle.plain.specs.Calls.{deepest_plain, BitsShort, GivesBits, ToBitsOf, ToListOf, SetBitsOf, Leaves, ShiftBitsOf, MoveBitsOf, LookupBitsOf}
use Rattle.plain.proofs.BitLaws.{bytes_enough, bit_zero, same_bit, one_bits, front_bits}
use Rattle.plain.proofs.Voxels.{black_in_lem, stays_or_leaves}
use Rattle.plain.proofs.PlainLaws.{BitsSuccess, bits_success, to_bits_success, to_list_success}
use Rattle.demands.specs.Laws.{Succeeds, Roomy, wrote}
use Rattle.demands.specs.Engines.{SameVoxels, PaintsLists, ListsBits, ListAndBack, SameBits, BitsAndBack, MovedAlike, MovesAlike, CombinesAlike, LooksAlike}
use Rattle.demands.proofs.Outcomes.{Left, number_of, not_deep, told_gives, gives_success, success_gives, combine_told}

-- what the list engine takes at the plain engine's depths
shallow : {D : ℕ} → D ≤ deepest_plain → D ≤ deepest
shallow h = omega arith

-- the number of an answer
told : {r : Answer} {n p k : ℕ} → r ≡ answer n p k → r.number ≡ n
told e = ap (λ (a : Answer). a.number) e

-- ---- lists and bits of the same voxels

module _ {D : ℕ} {l b : List ℕ} (x : SameVoxels D l b) where
  black_both : (v : ℕ) → (black D l v ≡ true) ↔ (black_in D b v ≡ true)
  black_both v = (λ e. sym (x.same v (black_in_root D 0 l x.good.ordered v e)) ∙ e, λ e. x.same v ((black_in_lem D b v).0 e).0 ∙ e)

  -- one voxel, carried
  from_both : (R : ℕ → ℕ → Type 0) (v : ℕ) → FromBlack R (black D l) v ↔ FromBlack R (black_in D b) v
  from_both R v = (λ (u, e, c). (u, (black_both u).0 e, c), λ (u, e, c). (u, (black_both u).1 e, c))

-- the list of the voxels that have P, and bits whose voxels have Q
same_voxels : {D : ℕ} {P Q : ℕ → Type 0} {l b : List ℕ} → ListOf D P l → ((v : ℕ) → v < 8 ^ D → (black_in D b v ≡ true) ↔ Q v) → ((v : ℕ) → P v ↔ Q v) → SameVoxels D l b
same_voxels {D} {P} {Q} {l} {b} x y both = record {
  good = x.good;
  same = λ v h. same_truth (black D l v) (black_in D b v) (λ e. (y v h).1 ((both v).0 ((x.exactly v h).0 e)), λ e. (x.exactly v h).1 ((both v).1 ((y v h).0 e)));
}

-- one list has the voxels of the bits
one_same : {D : ℕ} {l m b : List ℕ} → SameVoxels D l b → SameVoxels D m b → l ≡ m
one_same {D} {l} {m} {b} x y = one_list D (λ v. black D m v ≡ true) l m (record { good = x.good; exactly = λ v h. let e = x.same v h ∙ sym (y.same v h) in (λ k. sym e ∙ k, λ k. e ∙ k) }) (list_of_itself D m y.good)

-- ---- a list to bits

module _ (D : ℕ) (l o o' : List ℕ) (r : Answer) (h : D ≤ deepest_plain) (room : Roomy r) where
  -- a good list is painted
  paints_good : Good D l → ToBitsOf D l o r o' → BitsSuccess D (λ v. black D l v ≡ true) o r o'
  paints_good g (inl (a, t, _)) = absurd (passes (deep_enough h) a t)
  paints_good g (inr (_, inl (a, t, _))) = absurd (good_passes D l 1 g a t)
  paints_good g (inr (_, inr (_, inl (a, (_, e), f)))) = absurd (room (ap number_of f ∙ told e))
  paints_good g (inr (_, inr (_, inr (_, w)))) = bits_success D _ o r o' w

  painted : Good D l → ToBitsOf D l o r o' → Succeeds r × SameVoxels D l o'
  painted g t =
      let k = paints_good g t in
      (ap number_of k.is_left, same_voxels (list_of_itself D l g) k.colours (λ v. (λ e. e, λ e. e)))

  -- past the depth, the list decides both
  module _ (c : Answer) where
    checked : Decided (keeping o) (Faulty D l 1 ∷ BitsShort D o ∷ []) (GivesBits D (λ v. black D l v ≡ true) o) (r, o') → Decided alone (Faulty D l 1 ∷ []) (λ a. a ≡ given (length l)) c
        → (Succeeds c × Succeeds r × SameVoxels D l o') ⊎ ((Succeeds c → ⊥) × (r ≡ c))
    checked (inl (a, bad, e)) (inl (b, faulty, f)) =
        let same : a ≡ b = one_refuses_first a b bad faulty in
        inr (λ z. faulty_numbered D l 1 b faulty (ap (λ (q : Answer). q.number) (sym f) ∙ z), ap (λ (q : Left). q.0) e ∙ same ∙ sym f)
    checked (inl (a, bad, _)) (inr (clean, _)) = absurd (clean a bad)
    checked (inr (clean, _)) (inl (b, faulty, _)) = absurd (clean b faulty)
    checked (inr (clean, w)) (inr (_, e)) = let (z, same) = painted (not_faulty D l 1 clean) (inr (passes (deep_enough h), inr (clean, w))) in inl (told e, z, same)

pub paints_lists : PaintsLists ToBitsOf
paints_lists D l h o o' r t room c d =
    checked D l o o' r h room c
    (decided_past (keeping o) (TooDeep deepest_plain D) (Faulty D l 1 ∷ BitsShort D o ∷ []) (GivesBits D (λ v. black D l v ≡ true) o) (r, o') (passes (deep_enough h)) t)
    (decided_past alone (TooDeep deepest D) (Faulty D l 1 ∷ []) (λ a. a ≡ given (length l)) c (not_deep D (shallow h)) d)

-- ---- bits to a list

pub lists_bits : ListsBits ToListOf
lists_bits D b h o o' r (inl (a, t, _)) room = absurd (passes (deep_enough h) a t)
lists_bits D b h o o' r (inr (_, inl (a, (_, e), f))) room = absurd (room (ap number_of f ∙ told e))
lists_bits D b h o o' r (inr (_, inr (_, w))) room =
    let g = told_gives D (λ v. black_in D b v ≡ true) o o' r w room in
    (gives_success D (λ v. black_in D b v ≡ true) o o' r g, same_voxels g.list (λ v k. (λ e. e, λ e. e)) (λ v. (λ e. e, λ e. e)))

-- ---- there and back

pub list_and_back : ListAndBack ToBitsOf ToListOf
list_and_back D l o o' r t z p p' s u room =
    let (h, g, k) = to_bits_success o r o' D l t z in
    let (done, same) = lists_bits D o' h p p' s u room in
    (done, one_same same (same_voxels (list_of_itself D l g) k.colours (λ v. (λ e. e, λ e. e))))

module _ (D : ℕ) (b c l : List ℕ) (long : bytes_for D ≤ length b) (x : ListOf D (λ v. black_in D b v ≡ true) l) (y : BitsOf D (λ v. black D l v ≡ true) c) where
  same_bits : SameBits D b c
  same_bits = record { voxels = voxels; spare = spare; bytes = λ small none. one_bits D (λ v. black D l v ≡ true) c (take (bytes_for D) b) y (own small none) }
    where
      -- a bit of b is 1 where the voxel is black in the list
      ones : (v : ℕ) → v < 8 ^ D → (bit_at b v ≡ 1) ↔ (black D l v ≡ true)
      ones v h = (λ e. (x.exactly v h).1 ((black_in_lem D b v).1 (h, e)), λ e. ((black_in_lem D b v).0 ((x.exactly v h).0 e)).1)

      voxels : (v : ℕ) → v < 8 ^ D → bit_at c v ≡ bit_at b v
      voxels v h = same_bit c b v (λ e. (ones v h).1 ((y.exactly v).0 e).1, λ e. (y.exactly v).1 (h, (ones v h).0 e))

      spare : (v : ℕ) → 8 ^ D ≤ v → v < 8 * bytes_for D → bit_at c v ≡ 0
      spare v h _ = bit_zero c v (λ e. let k = ((y.exactly v).0 e).0 in omega arith)

      own : ((i : ℕ) → get_or b i 0 < 256) → ((v : ℕ) → 8 ^ D ≤ v → v < 8 * bytes_for D → bit_at b v ≡ 0) → BitsOf D (λ v. black D l v ≡ true) (take (bytes_for D) b)
      own small none = front_bits D (λ v. black D l v ≡ true) b long (λ i _. small i) ones (λ v h k. none v h (omega (arith, bytes_enough D)))

pub bits_and_back : BitsAndBack ToBitsOf ToListOf
bits_and_back D b o o' r u z p p' s t room =
    let (h, long, k) = to_list_success o r o' D b u z in
    let g = success_gives D (λ v. black_in D b v ≡ true) o o' r k in
    let y = paints_good D (wrote r o') p p' s h room g.list.good t in
    (ap number_of y.is_left, subst⁻¹ (SameBits D b) y.front.is_front (same_bits D b y.made (wrote r o') long g.list y.is_bits))

-- ---- moves

module _ (D : ℕ) (l b : List ℕ) (x : SameVoxels D l b) (d : ℕ → ℤ) where
  abbrev R : ℕ → ℕ → Type 0
  R = Came D d

  -- a voxel of a leaf is black in both
  leaf_black : (i u : ℕ) → i < length l → holds D (get_or l i 0) u ≡ true → black_in D b u ≡ true
  leaf_black i u k h = (black_both x u).0 (member_black D (get_or l i 0) l u (member_at l i k) h)

  -- the first black voxel that leaves lies in the first leaf that strays
  in_leaf : (i u : ℕ) → First (length l) (λ j. Strays D R (get_or l j 0)) i → First (8 ^ D) (Leaves R (black_in D b)) u → holds D (get_or l i 0) u ≡ true
  in_leaf i u f g =
      let (dark, none) = g.here in
      let (c, m, in_c) = leaf_of D l u ((black_both x u).1 dark) in
      let (j, k, is) = index_of c l m in
      go j k (subst⁻¹ (λ (q : ℕ). holds D q u ≡ true) is in_c) none (le_or_lt i j)
    where
      go : (j : ℕ) → j < length l → holds D (get_or l j 0) u ≡ true → ((v : ℕ) → R u v → ⊥) → (i ≤ j) ⊎ (j < i) → holds D (get_or l i 0) u ≡ true
      go j k in-j none (inr before) = absurd (f.before j before (u, in-j, none))
      go j k in-j none (inl after) =
          ⊎_elim (λ (e : i ≡ j). rw e in-j)
          (λ (later : i < j).
          let (w, in-i, gone) = f.here in
          let order = in_order D 0 l x.good.ordered i j later k in
          absurd (g.before w (omega (arith, order, holds_true D (get_or l i 0) w in-i, holds_true D (get_or l j 0) u in-j)) (leaf_black i w f.below in-i, gone)))
          (eq-or-lt_of_le after)

  -- where a leaf strays, a black voxel leaves: there is a first
  leaves_or_not : (u : ℕ) → Leaves R (black_in D b) u ⊎ (Leaves R (black_in D b) u → ⊥)
  leaves_or_not u = go (black_in D b u) refl (stays_or_leaves D d u)
    where
      go : (t : Bool) → black_in D b u ≡ t → ((v : ℕ) × R u v) ⊎ ((v : ℕ) → R u v → ⊥) → Leaves R (black_in D b) u ⊎ (Leaves R (black_in D b) u → ⊥)
      go false e s = inr (λ (dark, _). clash dark e)
      go true e (inl (v, c)) = inr (λ (_, none). none v c)
      go true e (inr none) = inl (e, none)

  some_leaves : (i : ℕ) → First (length l) (λ j. Strays D R (get_or l j 0)) i → ((u : ℕ) → First (8 ^ D) (Leaves R (black_in D b)) u → ⊥) → ⊥
  some_leaves i f none =
      let (w, in-i, gone) = f.here in
      let dark = leaf_black i w f.below in-i in
      ⊎_elim (λ (u, g). none u g) (λ all. all w ((black_in_lem D b w).0 dark).0 (dark, gone)) (first_or_none (Leaves R (black_in D b)) leaves_or_not (8 ^ D))

  module _ (o o' : List ℕ) (r : Answer) (room : Roomy r) (p p' : List ℕ) (s : Answer) (room' : Roomy s) where
    -- both answers have the number n, which is not that of the other cases
    shifted_alike : ShiftOf D l d o (r, o') → ShiftBitsOf D b p d (s, p') → MovedAlike D l r o' s p'
    shifted_alike t (inl (a, (_, e), f)) = absurd (room' (ap number_of f ∙ told e))
    shifted_alike t (inr (_, inl (a, (_, e), f))) = absurd (room' (ap number_of f ∙ told e))
    shifted_alike (inl (a, (i, F, e), f)) (inr (_, inr (_, inl (c, (u, G, e'), f')))) =
        let is : r ≡ answer 7 i 1 = ap (λ (q : Left). q.0) f ∙ e in
        let is' : s ≡ answer 7 u 1 = ap (λ (q : Left). q.0) f' ∙ e' in
        record {
          same_number = told is' ∙ sym (told is);
          moved = λ z. let n : ◌≡◌ {A = ℕ} 7 0 = sym (told is) ∙ z in absurd (omega arith);
          strays = λ _. ap₂ (λ (a b : ℕ). holds D (get_or l a 0) b) (ap (λ (q : Answer). q.place) is) (ap (λ (q : Answer). q.place) is') ∙ in_leaf i u F G;
          unmeasured = λ z. let n : ◌≡◌ {A = ℕ} 7 5 = sym (told is) ∙ z in absurd (omega arith);
        }
    shifted_alike (inl (a, (i, F, e), f)) (inr (_, inr (_, inr (none, w)))) = absurd (some_leaves i F (λ u G. none (answer 7 u 1) (u, G, refl)))
    shifted_alike (inr (none, w)) (inr (_, inr (_, inl (c, (u, G, e'), f')))) =
        let (dark, gone) = G.here in
        let (v, came) = (accepted_exactly D d l x.good.ordered).0 none u ((black_both x u).1 dark) in
        absurd (gone v came)
    shifted_alike (inr (none, w)) (inr (_, inr (_, inr (none', w')))) =
        let g = told_gives D (FromBlack R (black D l)) o o' r w room in
        let k = bits_success D (FromBlack R (black_in D b)) p s p' w' in
        let z : r.number ≡ 0 = gives_success D (FromBlack R (black D l)) o o' r g in
        record {
          same_number = ap number_of k.is_left ∙ sym z;
          moved = λ _. same_voxels g.list k.colours (from_both x R);
          strays = λ y. let n : ◌≡◌ {A = ℕ} 0 7 = sym z ∙ y in absurd (omega arith);
          unmeasured = λ y. let n : ◌≡◌ {A = ℕ} 0 5 = sym z ∙ y in absurd (omega arith);
        }

module _ (D : ℕ) (l b : List ℕ) (m : Move) (x : SameVoxels D l b) (o o' : List ℕ) (r : Answer) (room : Roomy r) (p p' : List ℕ) (s : Answer) (room' : Roomy s) where
  -- number 5 is told of the move, whatever is moved
  unmeasured_alike : (a : Answer) → a.number ≡ 5 → (r, o') ≡ keeping o a → (s, p') ≡ keeping p a → MovedAlike D l r o' s p'
  unmeasured_alike a five e f =
      let is : r ≡ a = ap (λ (q : Left). q.0) e in
      let is' : s ≡ a = ap (λ (q : Left). q.0) f in
      let number : r.number ≡ 5 = ap (λ (q : Answer). q.number) is ∙ five in
      record {
        same_number = ap (λ (q : Answer). q.number) (is' ∙ sym is);
        moved = λ z. let n : ◌≡◌ {A = ℕ} 5 0 = sym number ∙ z in absurd (omega arith);
        strays = λ z. let n : ◌≡◌ {A = ℕ} 5 7 = sym number ∙ z in absurd (omega arith);
        unmeasured = λ _. is' ∙ sym is;
      }

  -- past its own tests, a move becomes one displacement
  by_voxels_alike : ByVoxels m (λ d. ShiftOf D l d o) (r, o') → ByVoxels m (ShiftBitsOf D b p) (s, p') → MovedAlike D l r o' s p'
  by_voxels_alike (i, j, k, becomes, t) (i', j', k', becomes', t') =
      let same = one_becomes m (axes i j k) (axes i' j' k') becomes becomes' in
      shifted_alike D l b x (axes i j k) o o' r room p p' s room' t (rw (same 0 (omega arith), same 1 (omega arith), same 2 (omega arith)) t')

  tested_alike : Decided (keeping o) (move_tests m) (ByVoxels m (λ d. ShiftOf D l d o)) (r, o') → Decided (keeping p) (move_tests m) (ByVoxels m (ShiftBitsOf D b p)) (s, p') → MovedAlike D l r o' s p'
  tested_alike t t' =
      ⊎_elim (λ (a, five, e, f). unmeasured_alike a five e f) (λ (t, t'). by_voxels_alike t t')
      (decided_both (keeping o) (keeping p) (move_tests m) (λ a. a.number ≡ 5) (one_move_tests m) (move_tests_five m) _ _ (r, o') (s, p') t t')

pub moves_alike : MovesAlike MoveOf MoveBitsOf
moves_alike D l b m h x o o' r t room p p' s t' room' =
    let P : Left → Type 0 = ByVoxels m (λ d. ShiftOf D l d o) in
    let listed = decided_past (keeping o) (TooDeep deepest D) (Faulty D l 1 ∷ move_tests m) P (r, o') (not_deep D (shallow h)) t in
    tested_alike D l b m x o o' r room p p' s room'
    (decided_past (keeping o) (Faulty D l 1) (move_tests m) P (r, o') (good_passes D l 1 x.good) listed)
    (decided_past (keeping p) (TooDeep deepest_plain D) (move_tests m) (ByVoxels m (ShiftBitsOf D b p)) (s, p') (passes (deep_enough h)) t')

-- ---- joins, intersections and differences

chosen_both : (op : Op) {A A' B B' : Type 0} → A ↔ A' → B ↔ B' → Chosen op A B ↔ Chosen op A' B'
chosen_both Join x y = (λ t. ⊎_elim (λ a. inl (x.0 a)) (λ b. inr (y.0 b)) t, λ t. ⊎_elim (λ a. inl (x.1 a)) (λ b. inr (y.1 b)) t)
chosen_both Intersect x y = (λ (a, b). (x.0 a, y.0 b), λ (a, b). (x.1 a, y.1 b))
chosen_both Subtract x y = (λ (a, none). (x.0 a, λ b. none (y.1 b)), λ (a, none). (x.1 a, λ b. none (y.0 b)))

pub combines_alike : (op : Op) → CombinesAlike (SetOf op) (SetBitsOf op)
combines_alike op D a b a' b' h x y o o' r t room p p' s t' room' = go t'
  where
    go : SetBitsOf op D a' b' p s p' → Succeeds r × Succeeds s × SameVoxels D (wrote r o') p'
    go (inl (c, deep, _)) = absurd (passes (deep_enough h) c deep)
    go (inr (_, inl (c, (_, e), f))) = absurd (room' (ap number_of f ∙ told e))
    go (inr (_, inr (_, inl (c, (_, e), f)))) = absurd (room' (ap number_of f ∙ told e))
    go (inr (_, inr (_, inr (_, inl (c, (_, e), f))))) = absurd (room' (ap number_of f ∙ told e))
    go (inr (_, inr (_, inr (_, inr (_, w))))) =
        let P : ℕ → Type 0 = λ v. Chosen op (black D a v ≡ true) (black D b v ≡ true) in
        let g = told_gives D P o o' r (combine_told (Chosen op) D a b o o' r (shallow h) x.good y.good t) room in
        let k = bits_success D (λ v. Chosen op (black_in D a' v ≡ true) (black_in D b' v ≡ true)) p s p' w in
        (gives_success D P o o' r g, ap number_of k.is_left, same_voxels g.list k.colours (λ v. chosen_both op (black_both x v) (black_both y v)))

-- ---- lookups

pub looks_alike : LooksAlike LookupOf LookupBitsOf
looks_alike D l b h x i j k r s t t' room =
    let listed = decided_past unseen (TooDeep deepest D) (Faulty D l 1 ∷ NoVoxel D (axes i j k) ∷ []) Listed r (not_deep D (shallow h)) t in
    go (decided_past unseen (Faulty D l 1) (NoVoxel D (axes i j k) ∷ []) Listed r (good_passes D l 1 x.good) listed)
    (decided_past unseen (TooDeep deepest_plain D) (NoVoxel D (axes i j k) ∷ BitsShort D b ∷ []) Read s (passes (deep_enough h)) t')
  where
    -- what each tells of a voxel in the root
    Listed : LookupAnswer → Type 0
    Listed = SeenIn D (black D l) (number D i j k)

    Read : LookupAnswer → Type 0
    Read = SeenIn D (black_in D b) (number D i j k)

    roomy : Decided unseen (BitsShort D b ∷ []) Read s → Read s
    roomy (inl (a, (_, e), f)) = absurd (room (ap (λ (q : LookupAnswer). q.answer.number) f ∙ told e))
    roomy (inr (_, e)) = e

    -- the colours are the same, so the cell is
    both : Read s → Listed s
    both (n, largest, e) =
        let back : (u : ℕ) → u < 8 ^ D → black_in D b u ≡ black D l u = λ u g. sym (x.same u g) in
        (n, same_largest (black_in D b) (black D l) back (number D i j k) n largest, e ∙ ap (λ (c : Bool). seen c n) (back (number D i j k) (number_lt D i j k)))

    go : Decided unseen (NoVoxel D (axes i j k) ∷ []) Listed r → Decided unseen (NoVoxel D (axes i j k) ∷ BitsShort D b ∷ []) Read s → s ≡ r
    go (inl (a, (_, e), f)) (inl (c, (_, e'), f')) = f' ∙ ap unseen (e' ∙ sym e) ∙ sym f
    go (inl (a, (out, _), _)) (inr (inside, _)) = absurd (inside (answer 6 0 0) (out, refl))
    go (inr (inside, _)) (inl (c, (out, _), _)) = absurd (inside (answer 6 0 0) (out, refl))
    go (inr (_, e)) (inr (_, d)) = one_seen s r (both (roomy d)) e
