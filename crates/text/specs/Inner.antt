-- INNER: for the contracts of the functions that put text into a buffer. Definitions only.
use Rattle.std.specs.Prelude.{◌≡◌, List, [], ◌∷◌, ◌++◌, ℕ, ◌+◌, ◌*◌, ◌^◌, ◌<◌, length}
use Rattle.std.proofs.lemmas.List.Edits.{sets}
use Rattle.cells.specs.Cell.{level, index}
use Rattle.text.specs.declared.inner.parts.Page.{Page}
use Rattle.text.specs.Text.{labels, path_lines, field, depth_word, leaves_word, volume_word}

-- the text l is put over the bytes o from place `at` on, which leaves `after`: a byte past their end changes nothing; r is the place after it
pub record Put (o : List ℕ) (at : ℕ) (l after : List ℕ) (r : ℕ) : Type 0 where
  pub bytes : after ≡ sets o at l
  pub place : r ≡ at + length l

-- the text l is put to the page p, which is q then
abbrev pub Puts : Page → List ℕ → Page → Type 0
Puts p l q = Put p.bytes.now p.at l q.bytes.now q.at

-- the bytes of each part at most: a number of 64 bits in decimal; the labels of a code of 32 bits; "depth ", " leaves " and " volume ", a number after each, and
-- the line's end; r, the labels and the line's end
abbrev pub longest_number : ℕ
longest_number = 20

abbrev pub longest_labels : ℕ
longest_labels = 10

abbrev pub longest_head : ℕ
longest_head = 6 + 8 + 8 + 3 * longest_number + 1

abbrev pub longest_path : ℕ
longest_path = 1 + longest_labels + 1

-- the code c is r followed by k labels, i in base 8
abbrev pub Labelled : ℕ → ℕ → ℕ → Type 0
Labelled c k i = (c ≡ 8 ^ k + i) × (i < 8 ^ k)

-- the first line: depth D, n leaves, v black voxels
abbrev pub head_line : ℕ → ℕ → ℕ → List ℕ
head_line D n v = field depth_word D ++ field leaves_word n ++ field volume_word v ++ (10 ∷ [])

-- the line of a path: r, then the labels
abbrev pub path_line : ℕ → ℕ → List ℕ
path_line D c = 114 ∷ (labels (level D c) (index D c) ++ (10 ∷ []))

-- the whole listing, v being the black voxels
unfoldable pub listing : ℕ → List ℕ → ℕ → List ℕ
listing D l v = field depth_word D ++ field leaves_word (length l) ++ field volume_word v ++ (10 ∷ []) ++ path_lines D l
