-- What is written run by run, over plain lists: a number digit by digit, a line part by part. Each law says that the
-- last run makes the whole. Assumes nothing.
use Rattle.std.specs.Prelude.{
  ℕ,
  suc,
  ◌+◌,
  ◌/◌,
  ◌%◌,
  ◌≤◌,
  ◌<◌,
  ◌≡◌,
  refl,
  List,
  [],
  ◌∷◌,
  ◌++◌,
  length,
  set,
}
use Rattle.std.proofs.Common.{sym, ap, ◌∙◌, append-nil, arith, add-one, length-append}
use Rattle.std.proofs.lemmas.List.Edits.{sets}
use Rattle.line.specs.Line.{space, newline, cut_word, digit, decimal, row_of, cut_of}
use Rattle.line.specs.Decimal.{decimal_one, decimal_more}
use Rattle.line.specs.Laws.{behind, line_from}

-- ---- a number

-- a number of one digit
pub one_digit : (l : List ℕ) (at n : ℕ) → n < 10 → set l at (digit n) ≡ sets l at (decimal n)
one_digit l at n h = rw (decimal_one n h)

-- a tenth is written, and then the last digit
pub last_digit :
    (l m : List ℕ) (at end n : ℕ)
    → 10 ≤ n
    → m ≡ sets l at (decimal (n / 10))
    → end ≡ at + length (decimal (n / 10))
    → set m end (digit (n % 10)) ≡ sets l at (decimal n)
last_digit l m at end n h e p =
    let last = digit (n % 10) ∷ [] in
    behind (decimal (n / 10)) last l m (sets m end last) at end e p refl
    ∙ ap (λ (ds : List ℕ). sets l at ds) (sym (decimal_more n h))

-- a space and a number behind it
pub space_first :
    (l : List ℕ) (at n : ℕ) → sets (set l at space) (at + 1) (decimal n) ≡ sets l at (space ∷ decimal n)
space_first l at n = ap (λ (k : ℕ). sets (set l at space) k (decimal n)) (add-one at)

-- ---- a line

-- the four parts written, each behind the one before
pub line_written :
    (number : ℕ) (head cards l l₁ l₂ l₃ : List ℕ) (a b c : ℕ)
    → a ≡ 0 + length (decimal number)
    → l₁ ≡ sets l 0 (decimal number)
    → b ≡ a + length (row_of head)
    → l₂ ≡ sets l₁ a (row_of head)
    → c ≡ b + length (row_of cards)
    → l₃ ≡ sets l₂ b (row_of cards)
    → set l₃ c newline ≡ sets l 0 (line_from number head cards)
unfolding line_from
line_written number head cards l l₁ l₂ l₃ a b c ea fa eb fb ec fc =
    let A = decimal number in
    let B = row_of head in
    let C = row_of cards in
    let two = behind A B l l₁ l₂ 0 a fa ea fb in
    let three = behind (A ++ B) C l l₂ l₃ 0 b two (omega (arith, length-append A B)) fc in
    behind
    (A ++ B ++ C)
    (newline ∷ [])
    l
    l₃
    (set l₃ c newline)
    0
    c
    three
    (omega (arith, length-append A B, length-append (A ++ B) C))
    refl

-- the word, then the number behind a space, then the line's end
pub cut_written :
    (left c : ℕ) (l m : List ℕ)
    → c ≡ 3 + suc (length (decimal left))
    → m ≡ sets (sets l 0 cut_word) 3 (space ∷ decimal left)
    → set m c newline ≡ sets l 0 (cut_of left)
unfolding cut_of row_of
cut_written left c l m e f =
    let row = space ∷ decimal left in
    let number = f ∙ ap (sets (sets l 0 cut_word) 3) (sym (append-nil row)) in
    let two = behind cut_word (row ++ []) l (sets l 0 cut_word) m 0 3 refl refl number in
    behind
    (cut_word ++ (row ++ []))
    (newline ∷ [])
    l
    m
    (set m c newline)
    0
    c
    two
    (omega (arith, length-append row []))
    refl
