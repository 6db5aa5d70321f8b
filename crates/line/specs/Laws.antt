-- Lines as the code writes them: a row number by number, a line part by part; and how long they are. Assumes nothing.
use Rattle.std.specs.Prelude.{ℕ, suc, ◌+◌, ◌-◌, ◌≤◌, ◌<◌, ◌≡◌, refl, Option, IsSome, Some, None, unwrap_or}
use Rattle.std.specs.Prelude.{List, [], ◌∷◌, ◌++◌, length, get_or, take, drop, map, sum}
use Rattle.std.proofs.Common.{sym, ap, subst, ◌∙◌, append_assoc, append-nil, arith, add-one, le-leb}
use Rattle.std.proofs.Common.{length-append, drop-cons, get_or-take, length-take-le}
use Rattle.std.proofs.Math.Decide.{dec_le}
use Rattle.std.proofs.Math.ListN.{drop_of_length-le}
use Rattle.std.proofs.lemmas.Bool.{lt-leb}
use Rattle.std.proofs.lemmas.Grind.{common_steps}
use Rattle.std.proofs.lemmas.List.{take-append-drop, take_more, drop-take}
use Rattle.std.proofs.lemmas.List.Edits.{sets, sets-eq}
use Rattle.std.proofs.Math.Seq.{take-append_seam}
use Rattle.places.specs.Fill.{sets_append}
use Rattle.line.specs.Line.{space, newline, cut_word, decimal, row_of, line_of, cut_of, Laid, laid, line_into}
use Rattle.line.specs.Line.{Fitted, fitted, fitted_into}

-- ---- a number

-- a run of bytes, and another behind it
pub behind :
    (a b l m k : List ℕ) (i j : ℕ) → m ≡ sets l i a → j ≡ i + length a → k ≡ sets m j b → k ≡ sets l i (a ++ b)
behind a b l m k i j e p q =
    q
    ∙ ap (λ (x : List ℕ). sets x j b) e
    ∙ ap (λ (n : ℕ). sets (sets l i a) n b) p
    ∙ sym (sets_append a b l i)

-- the library's digits a, which are b, end at j: they are laid at i, and the rest is as before
pub laid_library :
    (l m a b : List ℕ) (i j k : ℕ)
    → a ≡ b
    → k ≡ i
    → k + length a ≡ j
    → j ≤ length l
    → take k m ≡ take k l
    → drop k m ≡ a ++ drop j l
    → m ≡ sets l i b
laid_library l m a b i j k same starts ends fits before written =
    sym (take-append-drop k m)
    ∙ ap (λ (x : List ℕ). x ++ drop k m) before
    ∙ ap (λ (x : List ℕ). take k l ++ x) written
    ∙ ap (λ (n : ℕ). take k l ++ (a ++ drop n l)) (sym ends)
    ∙ sym (append_assoc (take k l) a (drop (k + length a) l))
    ∙ sym (sets-eq a l k (omega arith))
    ∙ ap (λ (n : ℕ). sets l n a) starts
    ∙ ap (λ (x : List ℕ). sets l i x) same

-- ---- a row: what is left of the numbers from i on

unfoldable pub row_left : List ℕ → ℕ → List ℕ
row_left ns i = row_of (drop i ns)

pub row_whole : (ns : List ℕ) → row_left ns 0 ≡ row_of ns
unfolding row_left
row_whole ns = refl

-- the next number
pub row_next :
    (ns : List ℕ) (i : ℕ) → i < length ns → row_left ns i ≡ (space ∷ decimal (get_or ns i 0)) ++ row_left ns (i + 1)
unfolding row_left row_of
row_next ns i h =
    ap row_of (drop-cons ns i 0 h)
    ∙ ap (λ (j : ℕ). (space ∷ decimal (get_or ns i 0)) ++ row_of (drop j ns)) (sym (add-one i))

-- none is left
pub row_over : (ns : List ℕ) (i : ℕ) → length ns ≤ i → row_left ns i ≡ []
unfolding row_left row_of
row_over ns i h = ap row_of (drop_of_length-le ns {i = i} h)

pub row_append : (a b : List ℕ) → row_of (a ++ b) ≡ row_of a ++ row_of b
unfolding row_of
row_append [] b = refl
row_append (n ∷ a) b =
    ap (λ (l : List ℕ). (space ∷ decimal n) ++ l) (row_append a b)
    ∙ sym (append_assoc (space ∷ decimal n) (row_of a) (row_of b))

-- a row is as long as its numbers, each with its space
pub row_sum : (ns : List ℕ) → sum (map (λ (n : ℕ). 1 + length (decimal n)) ns) ≡ length (row_of ns)
unfolding row_of
row_sum [] = refl
row_sum (n ∷ ns) = grind (arith, common_steps, row_sum ns, length-append (space ∷ decimal n) (row_of ns))

-- the first numbers, and one more
pub row_more :
    (ns : List ℕ) (i x : ℕ)
    → i < length ns
    → x ≡ get_or ns i 0
    → row_of (take i ns) ++ (space ∷ decimal x) ≡ row_of (take (i + 1) ns)
unfolding row_of
row_more ns i x h e =
    ap (λ (l : List ℕ). row_of (take i ns) ++ l) (sym (append-nil (space ∷ decimal x)))
    ∙ sym (row_append (take i ns) (x ∷ []))
    ∙ ap (λ (y : ℕ). row_of (take i ns ++ (y ∷ []))) e
    ∙ ap row_of (sym (take_more ns i 0 h))

-- the first numbers, the next one, and the others
pub row_parts :
    (ns : List ℕ) (i x : ℕ)
    → i < length ns
    → x ≡ get_or ns i 0
    → row_of ns ≡ row_of (take i ns) ++ ((space ∷ decimal x) ++ row_left ns (i + 1))
unfolding row_left
row_parts ns i x h e =
    ap row_of (sym (take-append-drop i ns))
    ∙ row_append (take i ns) (drop i ns)
    ∙ ap (λ (l : List ℕ). row_of (take i ns) ++ l) (row_next ns i h)
    ∙ ap (λ (y : ℕ). row_of (take i ns) ++ ((space ∷ decimal y) ++ row_left ns (i + 1))) (sym e)

-- ---- a row of the first k numbers alone: what is left of them from i on

unfoldable pub row_part : List ℕ → ℕ → ℕ → List ℕ
row_part ns k i = row_of (take (k - i) (drop i ns))

-- which is what is left of the row of these
part_left : (ns : List ℕ) (k i : ℕ) → i ≤ k → row_part ns k i ≡ row_left (take k ns) i
unfolding row_part row_left
part_left ns k i h =
    let all : i + (k - i) ≡ k = omega arith in
    ap row_of (sym (drop-take i (k - i) ns) ∙ ap (λ (n : ℕ). drop i (take n ns)) all)

pub part_whole : (ns : List ℕ) (k : ℕ) → row_part ns k 0 ≡ row_of (take k ns)
part_whole ns k = part_left ns k 0 (omega arith) ∙ row_whole (take k ns)

-- the next number
pub part_next :
    (ns : List ℕ) (k i : ℕ)
    → i < k
    → k ≤ length ns
    → row_part ns k i ≡ (space ∷ decimal (get_or ns i 0)) ++ row_part ns k (i + 1)
part_next ns k i h b =
    part_left ns k i (omega arith)
    ∙ row_next (take k ns) i (omega (arith, length-take-le k ns b))
    ∙ ap (λ (x : ℕ). (space ∷ decimal x) ++ row_left (take k ns) (i + 1)) (get_or-take k ns i 0 h)
    ∙ ap (λ (l : List ℕ). (space ∷ decimal (get_or ns i 0)) ++ l) (sym (part_left ns k (i + 1) (omega arith)))

-- none is left
pub part_over : (ns : List ℕ) (k i : ℕ) → k ≤ i → row_part ns k i ≡ []
unfolding row_part row_of
part_over ns k i h =
    let none : k - i ≡ 0 = omega arith in
    ap (λ (j : ℕ). row_of (take j (drop i ns))) none

-- how many bytes the next number x takes of what is left
pub part_next_length :
    (ns : List ℕ) (k i x : ℕ)
    → i < k
    → k ≤ length ns
    → x ≡ get_or ns i 0
    → length (row_part ns k i) ≡ suc (length (decimal x)) + length (row_part ns k (i + 1))
part_next_length ns k i x h b e =
    ap length (part_next ns k i h b)
    ∙ length-append (space ∷ decimal (get_or ns i 0)) (row_part ns k (i + 1))
    ∙ ap (λ (y : ℕ). suc (length (decimal y)) + length (row_part ns k (i + 1))) (sym e)

-- a turn: the next number x is written, and what is left goes behind it
pub part_turn :
    (ns l m : List ℕ) (k i at end x : ℕ)
    → i < k
    → k ≤ length ns
    → x ≡ get_or ns i 0
    → end ≡ at + suc (length (decimal x))
    → m ≡ sets l at (space ∷ decimal x)
    → sets m end (row_part ns k (i + 1)) ≡ sets l at (row_part ns k i)
part_turn ns l m k i at end x h b e p q =
    let rest = row_part ns k (i + 1) in
    behind (space ∷ decimal x) rest l m (sets m end rest) at end q p refl
    ∙ ap (λ (y : ℕ). sets l at ((space ∷ decimal y) ++ rest)) e
    ∙ ap (λ (r : List ℕ). sets l at r) (sym (part_next ns k i h b))

-- ---- a line: its number, the numbers of its head, the cards, and its end

unfoldable pub line_from : ℕ → List ℕ → List ℕ → List ℕ
line_from number head cards = decimal number ++ row_of head ++ row_of cards ++ (newline ∷ [])

pub line_parts :
    (number refusal count found : ℕ) (cards : List ℕ)
    → line_from number (refusal ∷ count ∷ found ∷ []) cards ≡ line_of number refusal count found cards
unfolding line_from line_of
line_parts number refusal count found cards =
    ap
    (λ (l : List ℕ). l ++ (newline ∷ []))
    (append_assoc (decimal number) (row_of (refusal ∷ count ∷ found ∷ [])) (row_of cards)
    ∙ ap (λ (l : List ℕ). decimal number ++ l) (sym (row_append (refusal ∷ count ∷ found ∷ []) cards)))

pub line_length :
    (number : ℕ) (head cards : List ℕ)
    → length (line_from number head cards)
    ≡ length (decimal number) + length (row_of head) + length (row_of cards) + 1
unfolding line_from
line_length number head cards = simp length-append

-- ---- the last line

pub cut_parts : (left : ℕ) → cut_of left ≡ cut_word ++ (space ∷ decimal left) ++ (newline ∷ [])
unfolding cut_of row_of
cut_parts left = ap (λ (l : List ℕ). cut_word ++ l ++ (newline ∷ [])) (append-nil (space ∷ decimal left))

pub cut_length : (left : ℕ) → length (cut_of left) ≡ length (decimal left) + 5
unfolding cut_of row_of
cut_length left =
    let row = length-append (space ∷ decimal left) [] in
    let all = length-append ((space ∷ decimal left) ++ []) (newline ∷ []) in
    omega (arith, row, all)

-- ---- a line that fits, or not

pub into_room :
    (line room : List ℕ) → length line ≤ length room → line_into line room ≡ laid (length line) (sets room 0 line)
unfolding line_into
into_room line room h = rw (le-leb (length line) (length room) h)

pub no_room : (line room : List ℕ) → length room < length line → line_into line room ≡ laid 0 room
unfolding line_into
no_room line room h = rw (lt-leb (length line) (length room) h)

-- the contract of each public function fixes it: two outcomes that it allows are equal
pub laid_fixed : (line room : List ℕ) (o p : Laid) → o ≡ line_into line room → p ≡ line_into line room → o ≡ p
laid_fixed line room o p e f = e ∙ sym f

-- what a function answers and leaves
pub same_laid : {size n : ℕ} {bytes l : List ℕ} → size ≡ n → bytes ≡ l → laid size bytes ≡ laid n l
same_laid e f i = laid (e i) (f i)

-- the same told as an option: with 0 for None it is what `line_into` says (`fitted_laid`)
pub into_room_fitted :
    (line room : List ℕ)
    → length line ≤ length room
    → fitted_into line room ≡ fitted (Some (length line)) (sets room 0 line)
unfolding fitted_into
into_room_fitted line room h = rw (le-leb (length line) (length room) h)

pub no_room_fitted : (line room : List ℕ) → length room < length line → fitted_into line room ≡ fitted None room
unfolding fitted_into
no_room_fitted line room h = rw (lt-leb (length line) (length room) h)

pub fitted_laid :
    (line room : List ℕ) (o : Fitted)
    → o ≡ fitted_into line room
    → laid (unwrap_or o.size 0) o.bytes ≡ line_into line room
fitted_laid line room o e =
    ap (λ (x : Fitted). laid (unwrap_or x.size 0) x.bytes) e ∙ elim (dec_le (length line) (length room)) [
      | yes h ↦
          ap (λ (x : Fitted). laid (unwrap_or x.size 0) x.bytes) (into_room_fitted line room h)
          ∙ sym (into_room line room h)
      | no h ↦
          ap (λ (x : Fitted). laid (unwrap_or x.size 0) x.bytes) (no_room_fitted line room (omega arith))
          ∙ sym (no_room line room (omega arith))
    ]

-- where the line fits, a length is answered
pub fitted_some :
    (line room : List ℕ) (o : Fitted) → length line ≤ length room → o ≡ fitted_into line room → IsSome o.size
fitted_some line room o h e =
    subst (λ (x : Fitted). IsSome x.size) (sym (e ∙ into_room_fitted line room h)) refl

-- and where one is, the line is laid
pub fitted_at :
    (line room bytes : List ℕ) (size : Option ℕ) (n : ℕ)
    → fitted size bytes ≡ fitted_into line room
    → size ≡ Some n
    → laid n bytes ≡ line_into line room
fitted_at line room bytes size n e is =
    ap (λ (s : Option ℕ). laid (unwrap_or s 0) bytes) (sym is) ∙ fitted_laid line room (fitted size bytes) e

pub fitted_fixed : (line room : List ℕ) (o p : Fitted) → o ≡ fitted_into line room → p ≡ fitted_into line room → o ≡ p
fitted_fixed line room o p e f = e ∙ sym f

-- what a function answers and leaves
pub same_fitted : {size n : ℕ} {bytes l : List ℕ} → size ≡ n → bytes ≡ l → fitted (Some size) bytes ≡ fitted (Some n) l
same_fitted e f i = fitted (Some (e i)) (f i)

-- a line that fits stands at the start
pub line_front : (line room : List ℕ) → length line ≤ length room → take (length line) (sets room 0 line) ≡ line
line_front line room h =
    ap (take (length line)) (sets-eq line room 0 (omega arith))
    ∙ take-append_seam line (drop (0 + length line) room)
