-- What the words of a command line ask for: a verb, perhaps the name of a class, and settings KEY=VALUE, each key at most once.
use Rattle.std.specs.Prelude.{◌≡◌, ℕ, Bool, true, false, ◌&&◌, ◌||◌, List, [], ◌∷◌, ◌++◌, length, map, take, drop, filter_map, Option, Some, None, is_some, unwrap_or, option_map, option_and_then, Result, Ok, Err, nat_eq, nat_le, bytes_eq, codes, decimal, if◌then◌else◌}
use Rattle.std.specs.Char.{is_ascii_alphanumeric}
use Rattle.std.specs.List.{list_all, list_any}
use Rattle.std.specs.Str.Parse.{digits_value}
use Rattle.dv_defs.specs.declared.run.Limits.{Limits}
use Rattle.dv_console.specs.declared.command.Cmd.{Cmd}
use Rattle.dv_console.specs.declared.command.Cmd.TheVariants as command
use Rattle.dv_console.specs.declared.command.WordError.{WordError}
use Rattle.dv_console.specs.declared.command.WordError.TheVariants as error
use Rattle.dv_console.specs.declared.keys.Key.{Key}
use Rattle.dv_console.specs.declared.keys.Key.TheVariants as key

-- ---- names of classes

abbrev pub is_dot : ℕ → Bool
is_dot b = nat_eq b 46

abbrev pub is_name_byte : ℕ → Bool
is_name_byte b = is_ascii_alphanumeric b || nat_eq b 95 || nat_eq b 36

-- what is left of a Java name, of whose current piece there is a byte already or not:
-- letters, digits, `_` and `$` with single dots between them
abbrev pub is_name_rest : Bool → List ℕ → Bool
is_name_rest begun [] = begun
is_name_rest begun (b ∷ bs) = if is_dot b then begun && is_name_rest false bs else is_name_byte b && is_name_rest true bs

-- pieces joined by dots, each of one byte of a name at least
abbrev pub is_java_name : List ℕ → Bool
is_java_name name = is_name_rest false name

-- `L`, the pieces joined by slashes, `;`
abbrev pub descriptor_of : List ℕ → List ℕ
descriptor_of name = 76 ∷ map (λ b. if is_dot b then 47 else b) name ++ 59 ∷ []

-- ---- settings

abbrev pub key_text : Key → List ℕ
key_text key.Workers = codes "workers="
key_text key.Seed = codes "seed="
key_text key.Budget = codes "budget="
key_text key.Heap = codes "heap="
key_text key.Log = codes "log="
key_text key.Number = codes "number="
key_text key.Classes = codes "classes="
key_text key.Threads = codes "threads="

-- the least and the greatest number that a key may be set to
abbrev pub least : Key → ℕ
least key.Workers = 1
least key.Budget = 1
least key.Heap = 64
least key.Classes = 1
least key.Threads = 1
least k = 0

abbrev pub greatest : Key → ℕ
greatest key.Workers = 8
greatest key.Budget = 50000000
greatest key.Heap = 8388608
greatest key.Classes = 1000
greatest key.Threads = 60
greatest k = 18446744073709551615

-- a number is written as it is printed: decimal digits without a sign, and no zero before others
abbrev pub number_in : List ℕ → Option ℕ
number_in text = let n = digits_value 10 text in if bytes_eq (decimal n) text then Some n else None

abbrev pub in_range : Key → ℕ → Option ℕ
in_range k n = if nat_le (least k) n && nat_le n (greatest k) then Some n else None

-- what a key's text says: a number in the key's range; `yes`, which counts as 1, of `log`
abbrev pub value_in : Key → List ℕ → Option ℕ
value_in key.Log text = if bytes_eq text (codes "yes") then Some 1 else None
value_in k text = option_and_then (in_range k) (number_in text)

-- what stands in a word behind a key
abbrev pub text_behind : Key → List ℕ → Option (List ℕ)
text_behind k word = if bytes_eq (take (length (key_text k)) word) (key_text k) then Some (drop (length (key_text k)) word) else None

-- the texts that words give a key, in their order
abbrev pub texts_of : Key → List (List ℕ) → List (List ℕ)
texts_of k words = filter_map (text_behind k) words

-- a key that stands once has a value, and one that doesn't stand has none; nothing else is read
abbrev pub set_by : Key → List (List ℕ) → Option (Option ℕ)
set_by k [] = Some None
set_by k (text ∷ []) = option_map Some (value_in k text)
set_by k (text ∷ other ∷ texts) = None

-- what words set a key to
abbrev pub setting : Key → List (List ℕ) → Option (Option ℕ)
setting k words = set_by k (texts_of k words)

-- each word sets one of these keys
abbrev pub are_of : List Key → List (List ℕ) → Bool
are_of keys words = list_all (λ word. list_any (λ k. is_some (text_behind k word)) keys) words

-- ---- commands

infixr 10 ◌>>=◌
abbrev pub ◌>>=◌ : {A B : Type 0} → Option A → (A → Option B) → Option B
x >>= f = option_and_then f x

-- the limits of a run, of which words set the steps and the words of the heap
abbrev pub limits_of : Option ℕ → Option ℕ → Limits
limits_of budget heap =
    record {
      budget = unwrap_or budget 10000000;
      heap = unwrap_or heap 1048576;
      output = 16777216;
      threads = 64;
      levels = 1024;
      words = 16384;
    }

abbrev pub limits_in : List (List ℕ) → Option Limits
limits_in words = setting key.Budget words >>= λ budget. setting key.Heap words >>= λ heap. Some (limits_of budget heap)

-- with a number of workers or with a seed
abbrev pub run_of : List ℕ → Option ℕ → Option ℕ → Limits → Option ℕ → Option Cmd
run_of class workers seed limits log =
    if is_some workers && is_some seed then None else Some (command.Run class (unwrap_or workers 1) seed limits (is_some log))

abbrev pub run_in : List ℕ → List (List ℕ) → Option Cmd
run_in class words =
    if are_of (key.Workers ∷ key.Seed ∷ key.Budget ∷ key.Heap ∷ key.Log ∷ []) words
    then (setting key.Workers words >>= λ workers.
    setting key.Seed words >>= λ seed.
    limits_in words >>= λ limits.
    setting key.Log words >>= λ log.
    run_of class workers seed limits log)
    else None

abbrev pub replay_in : List ℕ → List (List ℕ) → Option Cmd
replay_in class words =
    if are_of (key.Budget ∷ key.Heap ∷ []) words then option_map (command.Replay class) (limits_in words) else None

-- the first three keys must stand
abbrev pub demo_in : List (List ℕ) → Option Cmd
demo_in words =
    if are_of (key.Number ∷ key.Classes ∷ key.Threads ∷ key.Workers ∷ []) words
    then (setting key.Number words >>= λ n. n >>= λ number.
    setting key.Classes words >>= λ c. c >>= λ classes.
    setting key.Threads words >>= λ t. t >>= λ threads.
    setting key.Workers words >>= λ workers.
    Some (command.Demo number classes threads (unwrap_or workers 1)))
    else None

abbrev pub alone : Cmd → List (List ℕ) → Option Cmd
alone c [] = Some c
alone c (word ∷ words) = None

-- a command on the class of a name
abbrev pub named : (List ℕ → List (List ℕ) → Option Cmd) → List (List ℕ) → Option Cmd
named of [] = None
named of (name ∷ words) = if is_java_name name then of (descriptor_of name) words else None

-- the command that the words are, if they are one
abbrev pub command_in : List (List ℕ) → Option Cmd
command_in [] = None
command_in (verb ∷ words) =
    if bytes_eq verb (codes "run") then named run_in words
    else if bytes_eq verb (codes "replay") then named replay_in words
    else if bytes_eq verb (codes "verify") then alone command.Verify words
    else if bytes_eq verb (codes "list") then alone command.List words
    else if bytes_eq verb (codes "demo") then demo_in words
    else None

-- just the command that was asked for, unless memory was wanting
abbrev pub Reads : {X Y : Type 0} → (X → Y) → Result X WordError → Option Y → Type 0
Reads view (Ok x) asked = asked ≡ Some (view x)
Reads view (Err error.Usage) asked = asked ≡ None
Reads view (Err error.Memory) asked = Unit {0}
