-- The listing of a record: document 01, "Listing program". Bytes are ASCII. Definitions only.
use Rattle.std.specs.Prelude.{true, false, List, [], ◌∷◌, ◌++◌, ℕ, zero, suc, ◌+◌, ◌/◌, ◌%◌, ◌^◌, ltb, length}
use Rattle.cells.specs.Cell.{level, index}
use Rattle.cells.specs.Answer.{Decided, keeping, deepest, TooDeep}
use Rattle.cells.specs.declared.Answer.{Answer}
use Rattle.records.specs.Record.{black}
use Rattle.records.specs.Count.{count}
use Rattle.records.specs.Fault.{Faulty}
use Rattle.records.specs.Writing.{WritesOf}

-- the digits of n in base b, at most f + 1 of them, no zeros in front
unfoldable pub digits : ℕ → ℕ → ℕ → List ℕ
digits b zero n = (48 + n % b) ∷ []
digits b (suc f) n = elim (ltb n b) [ true ↦ (48 + n) ∷ [] | false ↦ digits b f (n / b) ++ ((48 + n % b) ∷ []) ]

-- the last k digits of i in base 8: k labels, outermost first
unfoldable pub labels : ℕ → ℕ → List ℕ
labels zero i = []
labels (suc k) i = labels k (i / 8) ++ ((48 + i % 8) ∷ [])

-- one path a line, in list order: r, then the labels, and the line's end
unfoldable pub path_lines : ℕ → List ℕ → List ℕ
path_lines D [] = []
path_lines D (c ∷ l) = (114 ∷ (labels (level D c) (index D c) ++ (10 ∷ []))) ++ path_lines D l

-- "depth ", " leaves ", " volume "
abbrev pub depth_word : List ℕ
depth_word = 100 ∷ 101 ∷ 112 ∷ 116 ∷ 104 ∷ 32 ∷ []

abbrev pub leaves_word : List ℕ
leaves_word = 32 ∷ 108 ∷ 101 ∷ 97 ∷ 118 ∷ 101 ∷ 115 ∷ 32 ∷ []

abbrev pub volume_word : List ℕ
volume_word = 32 ∷ 118 ∷ 111 ∷ 108 ∷ 117 ∷ 109 ∷ 101 ∷ 32 ∷ []

-- a word, and a number below 10 ^ 20 in decimal
abbrev pub field : List ℕ → ℕ → List ℕ
field w n = w ++ digits 10 19 n

-- the listing of a good list: depth, leaf count and black voxels on the first line, then the paths
unfoldable pub text_of : ℕ → List ℕ → List ℕ
text_of D l = field depth_word D ++ field leaves_word (length l) ++ field volume_word (count (black D l) (8 ^ D)) ++ (10 ∷ []) ++ path_lines D l

-- THE CALL list_text, of the list l to the bytes o: the answer r and the bytes o' afterwards
abbrev pub TextOf : ℕ → List ℕ → List ℕ → Answer → List ℕ → Type 0
TextOf D l o r o' = Decided (keeping o) (TooDeep deepest D ∷ Faulty D l 1 ∷ []) (WritesOf (text_of D l) o) (r, o')

-- "refused "
abbrev pub refused_word : List ℕ
refused_word = 114 ∷ 101 ∷ 102 ∷ 117 ∷ 115 ∷ 101 ∷ 100 ∷ 32 ∷ []

-- what is told of a file that is refused: number n and place p
unfoldable pub refused_text : ℕ → ℕ → List ℕ
refused_text n p = field refused_word n ++ field (32 ∷ []) p ++ (10 ∷ [])

-- THE CALL refused_text, of number n and place p to the bytes o: the answer r and the bytes o' afterwards
abbrev pub RefusedOf : ℕ → ℕ → List ℕ → Answer → List ℕ → Type 0
RefusedOf n p o r o' = WritesOf (refused_text n p) o (r, o')
