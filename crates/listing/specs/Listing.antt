-- The listing of records: the lines, what stands between two records, and what a run over records of any kind comes to.
use Rattle.std.specs.Prelude.{◌≡◌, ℕ, zero, suc, ◌+◌, ◌*◌, ◌/◌, ◌%◌, ◌^◌, min, List, [], ◌∷◌, ◌++◌, length, take, drop, ◌==◌}
use Rattle.basics.specs.Limits.{deepest}
use Rattle.basics.specs.Pick.{pick}
use Rattle.basics.specs.Codes.{codes}
use Rattle.basics.specs.Puts.{puts_from}
use Rattle.lines.specs.Lines.{decimal, space, newline}
use Rattle.ids.specs.Ids.{empty}
use Rattle.ids_text.specs.Text.{text_of}
use Rattle.arena.specs.Tables.{live_in, Tables, tables, state_of as arena_of}
use Rattle.arena.specs.Calls.{Out, fresh_of, release_of}
use Rattle.listing.specs.declared.Run.{Run}

-- ## The lines

-- the line of a record: its number, the refusal, the text of the root
unfoldable pub line_of : ℕ → ℕ → ℕ → List ℕ
line_of number refusal root = (decimal number ++ (space ∷ [])) ++ ((decimal refusal ++ (space ∷ [])) ++ (text_of root ++ (newline ∷ [])))

-- a line has at most so many bytes: 20 digits and a space, twice, a text of 41 bytes and the end of the line
abbrev pub widest : ℕ
widest = 84

-- the end of the listing: a cut last record of k bytes, and how many nodes live
unfoldable pub short_of : ℕ → List ℕ
short_of k = pick (k == 0) [] (codes "short " ++ (decimal k ++ (newline ∷ [])))

unfoldable pub live_line : ℕ → List ℕ
live_line n = codes "live " ++ (decimal n ++ (newline ∷ []))

unfoldable pub ending_of : ℕ → ℕ → List ℕ
ending_of k n = short_of k ++ live_line n

-- ## From record to record

-- what stands between two records: the arena, the root, and how many records there were
pub record State : Type 0 where
  pub tables : Tables
  pub root : ℕ
  pub count : ℕ

-- one more, running over at 2^64
unfoldable pub one_more : ℕ → ℕ
one_more n = (n + 1) % 2 ^ 64

-- from a root and a count, after the answer to a record: accepted, its id is the root and the old root is released; refused, the old root stays
unfoldable pub step_to : ℕ → ℕ → Out → State
step_to root count o =
    pick (o.no == 0)
    (record { tables = (release_of deepest o.after root).after; root = o.id; count = one_more count })
    (record { tables = o.after; root = root; count = one_more count })

-- what the start and a record come to: the state, and the refusal
pub record Stepped : Type 0 where
  pub state : State
  pub no : ℕ

unfoldable pub stepped_of : ℕ → ℕ → Out → Stepped
stepped_of root count o = record { state = step_to root count o; no = o.no }

-- where a block stands: the state, how many bytes were written, and the bytes lent for them
pub record Progress : Type 0 where
  pub state : State
  pub len : ℕ
  pub out : List ℕ

-- the same with the record's line, of its number, the refusal and the root, at the start of o
unfoldable pub lined_of : (ℕ → ℕ → ℕ → List ℕ) → ℕ → ℕ → Out → List ℕ → Progress
lined_of line root count a o =
    let s = step_to root count a in
    let l = line s.count a.no s.root in
    record { state = s; len = length l; out = puts_from o 0 l }

-- ## Records of any kind

-- how many bytes a record has; what it comes to, from the tables, the root and its bytes; and its line, of its number, the refusal and the root
pub record Records : Type 0 where
  pub width : ℕ
  pub enter : Tables → ℕ → List ℕ → Out
  pub line : ℕ → ℕ → ℕ → List ℕ

-- record i of the bytes b: from width · i on, so many or as many as are left
unfoldable pub record_in : ℕ → List ℕ → ℕ → List ℕ
record_in width b i = take width (drop (width * i) b)

-- what the bytes r of a record come to in a state
unfoldable pub answer_to : Records → State → List ℕ → Out
answer_to k s r = k.enter s.tables s.root r

-- after the first n records of b
unfoldable pub state_at : Records → State → List ℕ → ℕ → State
state_at k s b zero = s
state_at k s b (suc n) = let t = state_at k s b n in step_to t.root t.count (answer_to k t (record_in k.width b n))

-- the line of record n of b
unfoldable pub line_at : Records → State → List ℕ → ℕ → List ℕ
line_at k s b n =
    let t = state_at k s b n in
    let u = state_at k s b (suc n) in
    k.line u.count (answer_to k t (record_in k.width b n)).no u.root

-- the lines of the first n records of b
unfoldable pub lines_at : Records → State → List ℕ → ℕ → List ℕ
lines_at k s b zero = []
lines_at k s b (suc n) = lines_at k s b n ++ line_at k s b n

-- ## The calls

-- a fresh arena with nothing in it, before the first record; refusal 1 where the tables do not fit
unfoldable pub start_of : ℕ → List ℕ → List ℕ → List ℕ → Stepped
start_of c k f e =
    let o = fresh_of c k f e in
    record { state = record { tables = o.after; root = empty; count = 0 }; no = o.no }

-- how many of n records a call takes: all, as far as there is room for their lines
unfoldable pub taken_of : ℕ → ℕ → ℕ
taken_of n room = min n (room / widest)

-- the state beside the lists of the tables
abbrev pub state_of : Run → List ℕ → List ℕ → List ℕ → State
state_of r k f e = record { tables = tables (arena_of r.arena) k f e; root = r.root.0; count = r.count }

-- what a block comes to: the state, the records taken, how many bytes were written, and the bytes lent for them
pub record Told : Type 0 where
  pub state : State
  pub records : ℕ
  pub len : ℕ
  pub out : List ℕ

-- the first n records of b, their lines at the start of o
unfoldable pub told_of : Records → State → List ℕ → List ℕ → ℕ → Told
told_of k s b o n =
    record { state = state_at k s b n; records = n; len = length (lines_at k s b n); out = puts_from o 0 (lines_at k s b n) }

-- ## The whole run

-- the listing of n records in the bytes b, of which `cut` are left over
unfoldable pub listing_at : Records → State → List ℕ → ℕ → ℕ → List ℕ
listing_at k s b n cut = lines_at k s b n ++ ending_of cut (live_in (state_at k s b n).tables.arena)

-- A run over blocks of whole records: the bytes taken in so far, the state, and the lines so far.
pub data Entered (k : Records) (s : State) : List ℕ → State → List ℕ → Type 0 where
  begun : Entered k s [] s []
  block : {b : List ℕ} {t : State} {lines : List ℕ} → Entered k s b t lines → (x : List ℕ) (n : ℕ) → length x ≡ k.width * n
      → Entered k s (b ++ x) (state_at k t x n) (lines ++ lines_at k t x n)

-- where a run stands after blocks of whole records: what the bytes taken in so far come to
pub record Stands (k : Records) (s : State) (b : List ℕ) (t : State) (lines : List ℕ) : Type 0 where
  pub many : ℕ
  pub whole : length b ≡ k.width * many
  pub state : t ≡ state_at k s b many
  pub listed : lines ≡ lines_at k s b many
