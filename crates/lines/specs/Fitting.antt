-- How a line is read by a pattern: what the inner functions give.
-- Assumes nothing.
use Rattle.std.specs.Prelude.{ℕ, ◌+◌, ◌-◌, ◌*◌, ◌<◌, ◌≤◌, ◌≡◌, Bool, true, false, cond, ◌&&◌, ◌||◌, List, [], ◌∷◌, ◌++◌, length, get_or, set, drop, Option, Some, None, is_some, Result, Ok, Err}
use Rattle.sheet.specs.declared.fault.Fault.{Fault}
use Rattle.sheet.specs.declared.fault.Fault.TheVariants.{UnlikeLine}
use Rattle.sheet.specs.Refusals.{◌is◌, ◌below◌}
use Rattle.tables.specs.Count.{number_of}
use Rattle.lines.specs.declared.Digits.{Digits}
use Rattle.lines.specs.declared.Line.{Line}
use Rattle.lines.specs.declared.Numbers.{Numbers}
use Rattle.lines.specs.declared.Passed.{Passed}
use Rattle.lines.specs.Numerals.{digits_of, behind_digits, value_of, too_high}
use Rattle.lines.specs.Nine.{of_number, faulty, fitted, line_of}

-- a number, if a word holds it
abbrev pub in_word : ℕ → Option ℕ
in_word n = cond (n below too_high) (Some n) None

-- a number with a digit more behind it
abbrev pub with_digit : Option ℕ → ℕ → Option ℕ
with_digit None d = None
with_digit (Some n) d = in_word (10 * n + d)

-- the digits that stand in a line from `at` on
pub record DigitsAre (line : List ℕ) (at : ℕ) (r : Digits) : Type 0 where
  pub low : at ≤ r.end
  pub high : r.end ≤ length line
  pub long : length (digits_of (drop at line)) ≡ r.end - at
  pub behind : behind_digits (drop at line) ≡ drop r.end line
  pub value : r.number ≡ in_word (value_of (digits_of (drop at line)))

-- a number that is not bad: it is not 0 where that is refused, and has no leading zero
abbrev pub good_number : Bool → Bool → Option ℕ → Option ℕ
good_number refuses-zero leading-zero None = None
good_number refuses-zero leading-zero (Some n) = cond ((refuses-zero && n is 0) || leading-zero) None (Some n)

-- values with one more at place k, if all are good
abbrev pub values_with : ℕ → Option (List ℕ) → Option ℕ → Option (List ℕ)
values_with k None n = None
values_with k (Some vs) None = None
values_with k (Some vs) (Some n) = Some (set vs k n)

-- numbers with one more, behind those that there are
abbrev pub and_number : Numbers → Option ℕ → Numbers
and_number so n = record { count = so.count + 1; values = values_with so.count so.values n }

-- the line of a form with these values, or 41
abbrev pub with_values : ℕ → Option (List ℕ) → Line
with_values form None = faulty 41
with_values form (Some vs) = record { fault = 0; form = form; first = get_or vs 0 0; second = get_or vs 1 0; third = get_or vs 2 0 }

abbrev pub with_numbers : ℕ → Numbers → Line
with_numbers form so = with_values form so.values

-- how many numbers a pattern has
unfoldable pub numbers_in : List ℕ → ℕ
numbers_in [] = 0
numbers_in (p ∷ ps) = number_of (of_number p) + numbers_in ps

-- the numbers so far are these, and whether all are good
pub record Held (so : Numbers) (good : Bool) (ns : List ℕ) : Type 0 where
  pub count : so.count ≡ length ns
  pub few : length ns ≤ 3
  pub all-good : is_some so.values ≡ good
  pub values : (vs : List ℕ) → so.values ≡ Some vs → (length vs ≡ 3) × ((k : ℕ) → k < 3 → get_or vs k 0 ≡ get_or ns k 0)

-- what a line turns out to be: numbers were read, and the rest of the pattern and of the line are to come
unfoldable pub outcome : ℕ → Bool → List ℕ → List ℕ → List ℕ → Line
outcome form good ns pattern line =
    cond (fitted pattern line).fits
    (line_of form (record { fits = true; good = good && (fitted pattern line).good; numbers = ns ++ (fitted pattern line).numbers })) (faulty 40)

-- a line by the pattern of a form
abbrev pub by_pattern : ℕ → List ℕ → List ℕ → Line
by_pattern form pattern line = outcome form true [] pattern line

-- after a character of a pattern: the numbers so far, and the same outcome
pub record GoesOn (mark : ℕ) (line : List ℕ) (i : ℕ) (good : Bool) (ns : List ℕ) (r : Passed) : Type 0 where
  pub good-now : Bool
  pub numbers : List ℕ
  pub held : Held r.so good-now numbers
  pub same : (form : ℕ) (ps : List ℕ) → outcome form good ns (mark ∷ ps) (drop i line) ≡ outcome form good-now numbers ps (drop r.at line)

-- a character of a pattern was passed
pub record PassesOn (mark : ℕ) (line : List ℕ) (i : ℕ) (so : Numbers) (r : Passed) : Type 0 where
  pub inside : r.at ≤ length line
  pub counts : r.so.count ≡ so.count + number_of (of_number mark)
  pub goes_on : (good : Bool) (ns : List ℕ) → Held so good ns → GoesOn mark line i good ns r

-- what passing a character of a pattern gives: it is passed, or the line is unlike the pattern
abbrev pub Passes : ℕ → List ℕ → ℕ → Numbers → Result Passed Fault → Type 0
Passes mark line i so (Ok r) = PassesOn mark line i so r
Passes mark line i so (Err f) = (f ≡ UnlikeLine) × ((ps : List ℕ) → (fitted (mark ∷ ps) (drop i line)).fits ≡ false)
