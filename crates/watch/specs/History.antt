-- Emergencies by the whole history of rows, earliest first: which start rows hold a folio, whether it is open, how many are held, and what a row is told. No table occurs here.
-- Assumes nothing.
use Rattle.std.specs.Prelude.{ℕ, suc, ◌+◌, ◌<◌, ◌≡◌, Bool, true, false, cond, not, ◌&&◌, ◌||◌, List, [], ◌∷◌, ◌++◌, length}
use Rattle.std.specs.List.{list_any}
use Rattle.sheet.specs.Refusals.{◌is◌, ◌below◌, ◌when◌otherwise◌}
use Rattle.watch.specs.declared.TraceRow.{TraceRow}
use Rattle.watch.specs.declared.RowKind.{RowKind}
use Rattle.watch.specs.declared.RowKind.TheVariants.{Start, End, Question}

-- a row's kinds
abbrev pub start_kind : ℕ
start_kind = 1

abbrev pub end_kind : ℕ
end_kind = 2

abbrev pub question_kind : ℕ
question_kind = 3

-- .. as the code has them
abbrev pub kind_number : RowKind → ℕ
kind_number Start = start_kind
kind_number End = end_kind
kind_number Question = question_kind

-- what a row is told: a refusal's number or 0, and how many offices its question goes to
pub record Routed : Type 0 where
  pub number : ℕ
  pub offices : ℕ

-- at most so many folios are held
abbrev pub max_held : ℕ
max_held = 32

module _ {A : Type 0} where
  -- some element passes the test
  unfoldable pub some : (A → Bool) → List A → Bool
  some = list_any

  -- each element changed
  abbrev pub changed : (A → A) → List A → List A
  changed f [] = []
  changed f (x ∷ xs) = f x ∷ changed f xs

-- the row starts an emergency of folio f
unfoldable pub starts_folio : ℕ → TraceRow → Bool
starts_folio f r = r.kind is start_kind && f is r.folio

-- the row ends it
unfoldable pub ends_folio : ℕ → TraceRow → Bool
ends_folio f r = r.kind is end_kind && f is r.folio

-- row r, with the rows later than it, is a start row that holds folio f at minute t: below its own minute plus the timeout, until a later end row for the folio
unfoldable pub holds_at : TraceRow → List TraceRow → ℕ → ℕ → ℕ → Bool
holds_at r later f t timeout = starts_folio f r && (t below (r.minute + timeout) && not (some (ends_folio f) later))

-- the start rows that hold folio f at minute t
unfoldable pub holding : List TraceRow → ℕ → ℕ → ℕ → List TraceRow
holding [] f t timeout = []
holding (r ∷ later) f t timeout = cond (holds_at r later f t timeout) (r ∷ holding later f t timeout) (holding later f t timeout)

-- some start row from a minute before `bound` holds folio f at minute t
unfoldable pub held_before : ℕ → List TraceRow → ℕ → ℕ → ℕ → Bool
held_before bound h f t timeout = some (λ r. r.minute below bound) (holding h f t timeout)

-- the folio's emergency is open at minute t: some start row from a minute before t holds it at t
unfoldable pub is_open : List TraceRow → ℕ → ℕ → ℕ → Bool
is_open h f t timeout = held_before t h f t timeout

-- the folio is held at minute t: some start row, of that minute too, holds it at t
unfoldable pub is_held : List TraceRow → ℕ → ℕ → ℕ → Bool
is_held h f t timeout = held_before (suc t) h f t timeout

-- the same in one sentence: a start row of the folio, from a minute before `bound`, below whose minute plus the timeout t lies, and no later row ends it
pub record HeldBy (bound : ℕ) (h : List TraceRow) (f t timeout : ℕ) : Type 0 where
  pub earlier : List TraceRow
  pub row : TraceRow
  pub later : List TraceRow
  pub split : h ≡ earlier ++ (row ∷ later)
  pub start : starts_folio f row ≡ true
  pub before : row.minute < bound
  pub time : t < row.minute + timeout
  pub kept : some (ends_folio f) later ≡ false

-- some number occurs twice
unfoldable pub repeats : List ℕ → Bool
repeats [] = false
repeats (x ∷ xs) = some (λ y. x is y) xs || repeats xs

-- the folios held at minute t, each once
unfoldable pub held_folios : List TraceRow → ℕ → ℕ → List ℕ
held_folios [] t timeout = []
held_folios (r ∷ later) t timeout =
    cond (is_held (r ∷ later) r.folio t timeout && not (some (λ f. r.folio is f) (held_folios later t timeout))) (r.folio ∷ held_folios later t timeout) (held_folios later t timeout)

-- the last row's minute, m where there is none
unfoldable pub last_from : ℕ → List TraceRow → ℕ
last_from m [] = m
last_from m (r ∷ h) = last_from r.minute h

-- .. which is 0 at first
abbrev pub last_minute : List TraceRow → ℕ
last_minute h = last_from 0 h

-- a nonzero spare word
unfoldable pub spare_word : TraceRow → Bool
spare_word r = not (r.person is 0 && r.deed is 0)

-- an unknown kind, or a nonzero spare word of a start or an end
unfoldable pub bad_row : TraceRow → Bool
bad_row r = cond (r.kind is question_kind) false (cond (r.kind is start_kind || r.kind is end_kind) (spare_word r) true)

-- what refuses row r after the history h: 50 a minute lower than the row before, 54 a bad row, 51 a start that would make 33 folios held at its minute
unfoldable pub refusal : List TraceRow → TraceRow → ℕ → ℕ
refusal h r timeout =
    50 when r.minute below last_minute h otherwise
    54 when bad_row r otherwise
    51 when r.kind is start_kind && max_held below length (held_folios (h ++ (r ∷ [])) r.minute timeout) otherwise
    0

-- how many offices a row's question goes to: office 2, then office 1, while its folio is open; otherwise office 1 alone; none where the row is no question
unfoldable pub offices_for : TraceRow → Bool → ℕ
offices_for r opened = cond (r.kind is question_kind) (cond opened 2 1) 0

-- what row r is told after the history h
unfoldable pub routed : List TraceRow → TraceRow → ℕ → Routed
routed h r timeout = record {
  number = refusal h r timeout;
  offices = cond (refusal h r timeout is 0) (offices_for r (is_open h r.folio r.minute timeout)) 0;
}

-- the history after the row: a refused row is no part of it
unfoldable pub grown : List TraceRow → TraceRow → ℕ → List TraceRow
grown h r timeout = cond (refusal h r timeout is 0) (h ++ (r ∷ [])) h
