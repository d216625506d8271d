-- How the threads stand tells their lines.
use Rattle.std.proofs.Common.{◌≡◌, ◌++◌, ℕ, suc, List, [], ◌∷◌, length, arith, ap, refl}
use Rattle.dv_defs.specs.declared.machine.End.{End}
use Rattle.dv_defs.specs.Images.{Image}
use Rattle.dv_words.specs.State.{WordHeap, WordStack}
use Rattle.dv_threads.specs.Kept.{zipped}
use Rattle.dv_final.specs.Final.{uncaught, uncaught_by_ends, uncaught_line}

pub ends_tell : (image : Image) (heap : WordHeap) (ss : List WordStack) (es : List End) (os : List ℕ) (k : ℕ) → length es ≡ length ss → length os ≡ length ss
    → uncaught_by_ends image heap es k ≡ uncaught image heap (zipped ss es os) k
ends_tell image heap [] [] os k ends objects = refl
ends_tell image heap [] (e ∷ es) os k ends objects = absurd (omega (arith, ends))
ends_tell image heap (s ∷ ss) [] os k ends objects = absurd (omega (arith, ends))
ends_tell image heap (s ∷ ss) (e ∷ es) [] k ends objects = absurd (omega (arith, objects))
ends_tell image heap (s ∷ ss) (e ∷ es) (o ∷ os) k ends objects =
    ap (λ bs. uncaught_line image heap k e ++ bs) (ends_tell image heap ss es os (suc k) (omega (arith, ends)) (omega (arith, objects)))
