-- The descriptors of the boot classes, and the names of methods, that rules and steps speak of.
use Rattle.std.specs.Prelude.{ℕ, List, codes}

abbrev pub object_name : List ℕ
object_name = codes "Ljava/lang/Object;"

abbrev pub class_name : List ℕ
class_name = codes "Ljava/lang/Class;"

abbrev pub string_name : List ℕ
string_name = codes "Ljava/lang/String;"

abbrev pub thread_name : List ℕ
thread_name = codes "Ljava/lang/Thread;"

abbrev pub throwable_name : List ℕ
throwable_name = codes "Ljava/lang/Throwable;"

abbrev pub error_name : List ℕ
error_name = codes "Ljava/lang/Error;"

abbrev pub out_of_memory_name : List ℕ
out_of_memory_name = codes "Ljava/lang/OutOfMemoryError;"

abbrev pub stack_overflow_name : List ℕ
stack_overflow_name = codes "Ljava/lang/StackOverflowError;"

abbrev pub system_name : List ℕ
system_name = codes "Ljava/lang/System;"

abbrev pub stream_name : List ℕ
stream_name = codes "Ljava/io/PrintStream;"

abbrev pub text_name : List ℕ
text_name = codes "Ldvm/Text;"

abbrev pub console_name : List ℕ
console_name = codes "Ldvm/Console;"

-- of a constructor
abbrev pub init_name : List ℕ
init_name = codes "<init>"

-- of a class's initialiser
abbrev pub clinit_name : List ℕ
clinit_name = codes "<clinit>"

-- of the method that a run begins with
abbrev pub main_name : List ℕ
main_name = codes "main"
