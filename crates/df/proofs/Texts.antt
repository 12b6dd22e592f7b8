-- The whole text: where the reading of its root is wrong, where bytes follow the root, and where it is all read, the tests of number 10 say so. Assumes nothing.
use mathlib.Core.Path.{◌≡◌, refl, sym, ap, ◌∙◌, subst}
use mathlib.Core.Logic.{inl, inr, ⊎_elim}
use mathlib.Core.List.{List, [], ◌∷◌, ◌++◌, append_assoc, append-nil}
use Prim.Native.Nat.{ℕ, suc, ◌<◌, ◌≤◌}
use native.Mathlib.Omega.{arith}
use lib.ListN.{length, get_or, take, drop, take-append-drop}
use lib.Seq.{take_all, take-take, take-suc, take_at}
use Rattle.cells.specs.Answer.{answer, given, First}
use Rattle.cells.specs.declared.Answer.{Answer}
use Rattle.cells.proofs.Decisions.{passes, passes_first}
use Rattle.cells.proofs.Power.{le_or_lt}
use Rattle.emit.specs.Inner.{Result}
use Rattle.df.specs.Df.{Tree, spell, Allowed, shows, Acceptable, Begins}
use Rattle.df.specs.Inner.{Reads, Stuck, ReadTextOf}
use Rattle.df.proofs.Spells.{nothing_follows}
use Rattle.df.proofs.Halves.{half_more}

-- ---- fronts of a text

-- where a front of the text begins acceptably, so does each shorter one
front_begins : (D : ℕ) (t : List ℕ) (e : ℕ) (s : List ℕ) → Acceptable D (take e t ++ s) → (i : ℕ) → i < e → Begins D (take (suc i) t)
front_begins D t e s acc i h = (drop (suc i) (take e t) ++ s, subst (Acceptable D) longer acc)
  where
    longer : take e t ++ s ≡ take (suc i) t ++ (drop (suc i) (take e t) ++ s)
    longer =
        ap (λ (q : List ℕ). q ++ s) (sym (take-append-drop (suc i) (take e t))) ∙ append_assoc (take (suc i) (take e t)) (drop (suc i) (take e t)) s
        ∙ ap (λ (q : List ℕ). q ++ (drop (suc i) (take e t) ++ s)) (take-take (suc i) e t h)

-- the bytes read from the beginning on
module _ {t p : List ℕ} {e : ℕ} (x : Reads t 0 p e) where
  read_front : take e t ≡ p
  read_front = ap (take e) x.rest ∙ take_at p (drop e t) e (omega (arith, x.place))

  -- and the next one
  read_next : e < length t → take (suc e) t ≡ p ++ get_or t e 0 ∷ []
  read_next h = take-suc t e 0 h ∙ ap (λ (q : List ℕ). q ++ get_or t e 0 ∷ []) read_front

  module _ (D : ℕ) (s : List ℕ) (acc : Acceptable D (p ++ s)) where
    fronts_begin : (i : ℕ) → i < e → Begins D (take (suc i) t)
    fronts_begin = front_begins D t e s (subst (λ (q : List ℕ). Acceptable D (q ++ s)) (sym read_front) acc)

    -- the first wrong byte
    first_wrong : e < length t → ((z : List ℕ) → Acceptable D (p ++ get_or t e 0 ∷ z) → ⊥) → First (length t) (λ i. Begins D (take (suc i) t) → ⊥) e
    first_wrong h wrong = record {
      below = h;
      here = λ (z, a). wrong z (subst (Acceptable D) (ap (λ (q : List ℕ). q ++ z) (read_next h) ∙ append_assoc p (get_or t e 0 ∷ []) z) a);
      before = λ i g n. n (fronts_begin i g);
    }

-- ---- what the reading of the root says of the text

module _ (D : ℕ) (t o out : List ℕ) where
  -- the text is wrong in the root
  pub root_stuck : {e : ℕ} {r : Answer} → Stuck D t 0 e → r ≡ answer 10 e 0 → ReadTextOf D t o out r
  root_stuck {e} {r} x told =
      let (y, s, acc) = half_more D x.bytes x.half in
      ⊎_elim
      (λ (h : length t ≤ e).
      let whole : t ≡ x.bytes = sym (take_all e t h) ∙ read_front x.reads in
      inr (
        passes_first (λ i g n. n (fronts_begin x.reads D (y ∷ s) acc i (omega arith))),
        inl (
          answer 10 (length t) 0,
          (λ a. nothing_follows a.tree acc.tree y s (ap (λ (q : List ℕ). q ++ y ∷ s) (sym a.spelled ∙ whole) ∙ acc.spelled), refl),
          told ∙ ap (λ (n : ℕ). answer 10 n 0) (omega (arith, x.reads.within)),
        ),
      ))
      (λ (h : e < length t). inl (answer 10 e 0, (e, first_wrong x.reads D (y ∷ s) acc h x.wrong, refl), told))
      (le_or_lt (length t) e)

  module _ (T : Tree) (allowed : Allowed D T) {e : ℕ} (x : Reads t 0 (spell T) e) where
    -- bytes follow the root
    pub root_followed : {r : Answer} → e < length t → r ≡ answer 10 e 0 → ReadTextOf D t o out r
    root_followed h told =
        let acc : Acceptable D (spell T ++ []) = record { tree = T; allowed = allowed; spelled = append-nil (spell T) } in
        inl (answer 10 e 0, (e, first_wrong x D [] acc h (λ z a. nothing_follows T a.tree (get_or t e 0) z a.spelled), refl), told)

    -- the text is all read
    pub root_read : {r : Answer} {n : ℕ} → length t ≤ e → Result D (shows D T) o out n → r ≡ given n → ReadTextOf D t o out r
    root_read {r} {n} h result told =
        let place : r.place ≡ n = ap (λ (a : Answer). a.place) told in
        let whole : t ≡ spell T = sym (take_all e t h) ∙ read_front x in
        let acc : Acceptable D t = record { tree = T; allowed = allowed; spelled = whole } in
        inr (
          passes_first (λ i g n. n (front_begins D t (length t) [] (subst (Acceptable D) (sym (append-nil (take (length t) t) ∙ take_all (length t) t (omega arith))) acc) i g)),
          inr (passes (λ none. none acc), (acc, subst (Result D (shows D T) o out) (sym place) result, told ∙ ap given (sym place))),
        )
