-- Lines are read in one way.
use Rattle.std.proofs.Common.{◌≡◌, ℕ, ◌+◌, pos, List, [], ◌∷◌, Result, Ok, refl, sym, ap, ◌∙◌}
use Rattle.dv_defs.specs.declared.run.Entry.{Entry}
use Rattle.dv_lex.specs.Lexemes.{Lexeme}
use Rattle.dv_lex.specs.Lines.{line_lexemes}
use Rattle.dv_lex.specs.Numbers.{signed}
use Rattle.dv_lex.proofs.Spelled.Texts.{determined}
use Rattle.dv_log.specs.Reading.{IsField, AreEntry, IsBlankLine, IsEntryLine, Reads, End, Blank, One, Bad}

value_same : (low high : ℕ) (t u : Lexeme) (v w : ℕ) → t ≡ u → IsField low high t v → IsField low high u w → v ≡ w
value_same low high t u v w same f g =
    let h : IsField low high t w = rw (← same) at g in
    let numbers : f.number ≡ h.number = determined t.text f.number h.number f.spells h.spells in
    let means : pos v ≡ pos w = sym f.means.0 ∙ ap signed numbers ∙ h.means.0 in
    cc

entry_by : (e f : Entry) → e.worker ≡ f.worker → e.thread ≡ f.thread → e.steps ≡ f.steps → e ≡ f
entry_by e f w t s =
    let parts : record { worker = e.worker; thread = e.thread; steps = e.steps } ≡ f = rw (w, t, s) refl in parts

are_same : (ls : List Lexeme) (e f : Entry) → AreEntry ls e → AreEntry ls f → e ≡ f
are_same ls e f a b =
    let held : a.first ∷ a.second ∷ a.third ∷ [] ≡ b.first ∷ b.second ∷ b.third ∷ [] = sym a.three ∙ b.three in
    let first : a.first ≡ b.first = cc in
    let second : a.second ≡ b.second = cc in
    let third : a.third ≡ b.third = cc in
    entry_by e f (value_same 0 7 a.first b.first e.worker f.worker first a.worker b.worker) (value_same 0 63 a.second b.second e.thread f.thread second a.thread b.thread)
    (value_same 1 256 a.third b.third e.steps f.steps third a.steps b.steps)

pub tokens_same : (line : List ℕ) (ls ms : List Lexeme) → line_lexemes 0 line ≡ Ok ls → line_lexemes 0 line ≡ Ok ms → ls ≡ ms
tokens_same line ls ms a b = let same : Ok ls ≡ Ok ms = sym a ∙ b in cc

pub entry_same : (line : List ℕ) (e f : Entry) → IsEntryLine line e → IsEntryLine line f → e ≡ f
entry_same line e f a b =
    let same : a.0 ≡ b.0 = tokens_same line a.0 b.0 a.1 b.1 in
    are_same b.0 e f (rw same at a.2) b.2

-- no tokens are no entry
pub none_are_none : (e : Entry) → AreEntry [] e → ⊥
none_are_none e a = let none : [] ≡ a.first ∷ a.second ∷ a.third ∷ [] = a.three in cc

pub not_both : (line : List ℕ) (e : Entry) → IsBlankLine line → IsEntryLine line e → ⊥
not_both line e blank entry =
    let same : [] ≡ entry.0 = tokens_same line [] entry.0 blank entry.1 in
    none_are_none e (rw (← same) at entry.2)

pub one_way : (n : ℕ) (ls : List (List ℕ)) (r s : Result (List Entry) ℕ) → Reads n ls r → Reads n ls s → r ≡ s
one_way n ls r s (End m) (End k) = refl
one_way n ls r s (Blank m line rest a blank h) (Blank k line2 rest2 b blank2 i) = one_way (n + 1) rest a b h i
one_way n ls r s (Blank m line rest a blank h) (One k line2 rest2 b e entry i) = absurd (not_both line e blank entry)
one_way n ls r s (Blank m line rest a blank h) (Bad k line2 rest2 bad) = absurd (bad.0 blank)
one_way n ls r s (One m line rest a e entry h) (Blank k line2 rest2 b blank i) = absurd (not_both line e blank entry)
one_way n ls r s (One m line rest a e entry h) (One k line2 rest2 b f entry2 i) = rw (entry_same line e f entry entry2, one_way (n + 1) rest a b h i) refl
one_way n ls r s (One m line rest a e entry h) (Bad k line2 rest2 bad) = absurd (bad.1 e entry)
one_way n ls r s (Bad m line rest bad) (Blank k line2 rest2 b blank i) = absurd (bad.0 blank)
one_way n ls r s (Bad m line rest bad) (One k line2 rest2 b e entry i) = absurd (bad.1 e entry)
one_way n ls r s (Bad m line rest bad) (Bad k line2 rest2 bad2) = refl
