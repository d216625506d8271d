-- What an outcome leaves of the output begins with what was there: each kind of instruction.
use Rattle.std.proofs.Common.{◌≡◌, ℕ, zero, suc, ◌++◌, Bool, true, false, List, [], Option, Some, None, refl, sym, ap, ◌∙◌, append-nil, append_assoc, subst}
use Rattle.std.proofs.lemmas.Bool.{true≢false}
use Rattle.std.specs.Prelude.{Ok, Err, if◌then◌else◌}
use Rattle.dv_defs.specs.declared.run.Named.{Named}
use Rattle.dv_machine.specs.State.{Left, Did, Go, Reads, reading, where_room, where_true}
use Rattle.dv_machine.specs.Mem.{on_object}
use Rattle.law_output.specs.Laws.{PrintsOn}

pub prints_none : (out : List ℕ) → PrintsOn out out
prints_none out = ([], sym (append-nil out))

pub prints_more : (out one two : List ℕ) → PrintsOn out one → PrintsOn one two → PrintsOn out two
prints_more out one two p q = (p.0 ++ q.0, q.1 ∙ ap (λ o. o ++ q.0) p.1 ∙ append_assoc out p.0 q.0)

-- what a step may come to leaves the output, or adds to it
pub record Leaves (out : List ℕ) (d : Did Left) : Type 0 where
  pub go : (l : Left) → d ≡ Go l → PrintsOn out l.shared.output

pub leaves_go : (out : List ℕ) (l : Left) → PrintsOn out l.shared.output → Leaves out (Go l)
leaves_go out l is = record { go = λ k e. let one : l ≡ k = cc in subst (λ (x : Left). PrintsOn out x.shared.output) one is }

-- an outcome that leaves everything as it was
abbrev pub is_quiet : Did Left → Bool
is_quiet (Go l) = false
is_quiet d = true

pub quiet : (out : List ℕ) (d : Did Left) → is_quiet d ≡ true → Leaves out d
quiet out d is = record { go = λ l e. absurd (true≢false (sym is ∙ ap is_quiet e)) }

module _ (out : List ℕ) where
  pub by_reading : {A : Type 0} (r : Reads A) (go : A → Did Left) → ((x : A) → Leaves out (go x)) → Leaves out (reading r go)
  by_reading (Ok x) go all = all x
  by_reading (Err y) go all = quiet out _ refl

  pub by_room : {A : Type 0} (o : Option A) (go : A → Did Left) → ((x : A) → Leaves out (go x)) → Leaves out (where_room o go)
  by_room (Some x) go all = all x
  by_room None go all = quiet out _ refl

  pub by_truth : (b : Bool) (n : Named) (go : Did Left) → Leaves out go → Leaves out (where_true b n go)
  by_truth true n go is = is
  by_truth false n go is = quiet out _ refl

  pub by_test : (b : Bool) (x y : Did Left) → Leaves out x → Leaves out y → Leaves out (if b then x else y)
  by_test true x y is other = is
  by_test false x y is other = other

  pub by_object : (go : ℕ → Did Left) → ((o : ℕ) → Leaves out (go o)) → (o : ℕ) → Leaves out (on_object go o)
  by_object go all zero = quiet out _ refl
  by_object go all (suc o) = all (suc o)
