-- The text of the demo: a program that is made from a number, with so many classes and threads.
use Rattle.std.specs.Prelude.{ℕ, zero, suc, ◌+◌, ◌*◌, ℤ, List, [], ◌++◌, codes, decimal}
use Rattle.std.specs.Fmt.{signed_decimal}
use Rattle.dv_defs.specs.Numbers.{from32}

-- the number that the class at a place mixes in: 32 bits of a sum, read as a signed number
abbrev pub mixed : ℕ → ℕ → ℤ
mixed number k = from32 (number + 1000003 * k)

-- the class at a place: its method gives (x xor the number) * 31 + the place
unfoldable pub class_text : ℕ → ℕ → List ℕ
class_text number k =
    codes ".class LG" ++ (decimal k ++
    (codes ";\n.super Ljava/lang/Object;\n.method static s(I)I\n.registers 2\nconst v0, " ++ (signed_decimal (mixed number k) ++
    (codes "\nxor-int p0, p0, v0\nmul-int/lit8 p0, p0, 31\nconst/16 v0, " ++ (decimal k ++
    codes "\nadd-int p0, p0, v0\nreturn p0\n.end method\n")))))

-- the classes before a place, in their order
abbrev pub classes_text : ℕ → ℕ → List ℕ
classes_text number zero = []
classes_text number (suc k) = classes_text number k ++ class_text number k

-- a call of the class at a place
unfoldable pub call_text : ℕ → List ℕ
call_text k = codes "invoke-static {v0}, LG" ++ (decimal k ++ codes ";->s(I)I\nmove-result v0\n")

-- the calls of the classes before a place
abbrev pub calls_text : ℕ → List ℕ
calls_text zero = []
calls_text (suc k) = calls_text k ++ call_text k

-- a worker up to its calls: it begins with its own number
unfoldable pub worker_head : List ℕ
worker_head =
    codes ".class LW;\n.super Ljava/lang/Thread;\n.field id:I\n.method constructor <init>(I)V\n.registers 2\ninvoke-direct {p0}, Ljava/lang/Thread;-><init>()V\niput p1, p0, LW;->id:I\nreturn-void\n.end method\n.method public run()V\n.registers 4\niget v0, p0, LW;->id:I\n"

-- behind them: what it came to is added to the total, under a lock
unfoldable pub worker_tail : List ℕ
worker_tail =
    codes "sget-object v1, LMain;->lock:Ljava/lang/Object;\nmonitor-enter v1\nsget v2, LMain;->total:I\nadd-int v2, v2, v0\nsput v2, LMain;->total:I\nmonitor-exit v1\nreturn-void\n.end method\n"

-- the main class up to the number of threads
unfoldable pub main_head : List ℕ
main_head =
    codes ".class LMain;\n.super Ljava/lang/Object;\n.field static total:I\n.field static lock:Ljava/lang/Object;\n.method static main()V\n.registers 4\nnew-instance v0, Ljava/lang/Object;\ninvoke-direct {v0}, Ljava/lang/Object;-><init>()V\nsput-object v0, LMain;->lock:Ljava/lang/Object;\nconst/16 v0, "

-- behind it: the threads are started, each is joined, and the total is printed
unfoldable pub main_tail : List ℕ
main_tail =
    codes "\nnew-array v1, v0, [LW;\nconst/4 v2, 0\n:a\nnew-instance v3, LW;\ninvoke-direct {v3, v2}, LW;-><init>(I)V\naput-object v3, v1, v2\ninvoke-virtual {v3}, LW;->start()V\nadd-int/lit8 v2, v2, 1\nif-lt v2, v0, :a\nconst/4 v2, 0\n:b\naget-object v3, v1, v2\ninvoke-virtual {v3}, LW;->join()V\nadd-int/lit8 v2, v2, 1\nif-lt v2, v0, :b\nsget v0, LMain;->total:I\ninvoke-static {v0}, Ldvm/Console;->println(I)V\nreturn-void\n.end method\n"

-- the classes, the worker and the main class
abbrev pub program_text : ℕ → ℕ → ℕ → List ℕ
program_text number classes threads =
    classes_text number classes ++ (worker_head ++ (calls_text classes ++ (worker_tail ++ (main_head ++ (decimal threads ++ main_tail)))))
