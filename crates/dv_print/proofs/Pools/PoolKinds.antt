-- An opcode without an index names no pool.
use Rattle.std.proofs.Common.{◌≡◌, ℕ, ◌<◌, Bool, true, false, ◌||◌, Option, Some, None, is_none, refl}
use Rattle.std.proofs.lemmas.Bool.{agree_below_at}
use Rattle.dv_defs.specs.declared.code.PoolKind.{PoolKind}
use Rattle.dv_defs.specs.Formats.{format_at, has_index}
use Rattle.dv_defs.specs.Families.{pool_at}

none_is : (o : Option PoolKind) → is_none o ≡ true → o ≡ None
none_is None e = refl
none_is (Some k) e = absurd (cc)

second : (a b : Bool) → (a || b) ≡ true → a ≡ false → b ≡ true
second true b e h = absurd (cc)
second false b e h = e

pub no_pool : (op : ℕ) → op < 256 → has_index (format_at op) ≡ false → pool_at op ≡ None
unfolding pool_at format_at
no_pool op h none =
    none_is (pool_at op)
    (second (has_index (format_at op)) _ (agree_below_at (λ n. has_index (format_at n) || is_none (pool_at n)) (λ n. true) 256 op refl h) none)
