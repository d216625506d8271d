-- The lines of threads that are held up, one after another, and that of the ending.
use Rattle.std.proofs.Common.{◌≡◌, ◌+◌, ◌<◌, ◌++◌, ◌∙◌, ℕ, suc, List, [], Option, Some, append_assoc, ap, arith, drop, drop-cons, length, subst, sym}
use Rattle.std.proofs.lemmas.List.{append-nil, drop_all}
use Rattle.dv_defs.specs.declared.machine.Blocked.{Blocked}
use Rattle.dv_defs.specs.declared.machine.End.TheVariants as end
use Rattle.dv_defs.specs.declared.run.Ending.{Ending}
use Rattle.dv_defs.specs.declared.run.Ending.TheVariants as ending
use Rattle.dv_defs.specs.Images.{Image}
use Rattle.dv_machine.specs.Final.{blocked_line}
use Rattle.dv_words.specs.State.{WordMachine, WordThread}
use Rattle.dv_words.specs.Running.{blocked_of}
use Rattle.dv_final.specs.Final.{blocked_lines, ending_line, ending_lines_by}

no_thread : WordThread
no_thread = record { levels = []; end = end.Returned; object = 0 }

module _ (image : Image) (m : WordMachine) (ts : List WordThread) (before all text : List ℕ) where
  -- one more line
  pub one_more : (k : ℕ) (b : Option Blocked) (longer : List ℕ) → k < length ts → b ≡ blocked_of image m k → longer ≡ text ++ blocked_line image k b
      → before ++ all ≡ text ++ blocked_lines image m (drop k ts) k → before ++ all ≡ longer ++ blocked_lines image m (drop (k + 1) ts) (k + 1)
  one_more k b longer within holds told so_far =
      let step : suc k ≡ k + 1 = omega arith in
      let rest = blocked_lines image m (drop (suc k) ts) (suc k) in
      so_far ∙
      ap (λ l. text ++ blocked_lines image m l k) (drop-cons ts k no_thread within) ∙
      ap (λ (x : Option Blocked). text ++ (blocked_line image k x ++ rest)) (sym holds) ∙
      sym (append_assoc text (blocked_line image k b) rest) ∙
      ap (λ l. l ++ rest) (sym told) ∙
      ap (λ n. longer ++ blocked_lines image m (drop n ts) n) step

  -- none is left
  pub no_more : (k : ℕ) → k ≡ length ts → before ++ all ≡ text ++ blocked_lines image m (drop k ts) k → text ≡ before ++ all
  no_more k is so_far =
      let none : drop k ts ≡ [] = drop_all k ts (omega (arith, is)) in
      sym (so_far ∙ ap (λ l. text ++ blocked_lines image m l k) none ∙ append-nil text)

-- and then the line of the ending
pub then_ends : (image : Image) (m : WordMachine) (e : Ending) (before text : List ℕ) → e ≡ ending.NoRunnable → text ≡ before ++ blocked_lines image m m.threads 0
    → text ++ ending_line e ≡ before ++ ending_lines_by image m (Some e)
then_ends image m e before text is told =
    subst (λ (x : Ending). text ++ ending_line x ≡ before ++ ending_lines_by image m (Some x)) (sym is)
    (ap (λ bs. bs ++ ending_line ending.NoRunnable) told ∙ append_assoc before (blocked_lines image m m.threads 0) (ending_line ending.NoRunnable))
