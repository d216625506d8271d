-- The boot classes. Above each one stands the smali text of its members.
use Rattle.std.specs.Prelude.{ℕ, ◌++◌, List, [], ◌∷◌, Some, None, codes}
use Rattle.dv_defs.specs.declared.class.MethodDef.{MethodDef}
use Rattle.dv_defs.specs.declared.image.ClassInfo.{ClassInfo}
use Rattle.dv_defs.specs.declared.image.Select.TheVariants as select
use Rattle.dv_defs.specs.Types.{of_class}
use Rattle.dv_defs.specs.Common.{array_of}
use Rattle.test_machine.specs.Images.{of_int, of_long, of_char, of_boolean, body, body_with, method, field, class, naming, method_ref, field_ref, object_init_ref, found, linked_selecting, linked}

--   .class Ljava/lang/Object;
--   .method constructor <init>()V
--   .registers 1
--   return-void
--   .end method
--   .method equals(Ljava/lang/Object;)Z
--   .registers 3
--   if-ne p0, p1, :a
--   const/4 v0, 0x1
--   return v0
--   :a
--   const/4 v0, 0x0
--   return v0
--   .end method
--   .method final native wait()V
--   .end method
--   .method native notify()V
--   .end method
--   .method native notifyAll()V
--   .end method
abbrev pub object_class : ClassInfo
object_class =
    linked None [] [] (1 ∷ 2 ∷ 3 ∷ 4 ∷ [])
    (class (codes "Ljava/lang/Object;") None [] 0 []
    (method (codes "<init>") [] None 0 (Some (body 1 (0x000e ∷ [])))
    ∷ method (codes "equals") (of_class (codes "Ljava/lang/Object;") ∷ []) (Some of_boolean) 0
    (Some (body 3 (0x2133 ∷ 0x0004 ∷ 0x1012 ∷ 0x000f ∷ 0x0012 ∷ 0x000f ∷ [])))
    ∷ method (codes "wait") [] None 0x410 None
    ∷ method (codes "notify") [] None 0x400 None
    ∷ method (codes "notifyAll") [] None 0x400 None ∷ []))

--   .class interface abstract Ljava/lang/Runnable;
--   .super Ljava/lang/Object;
--   .method abstract run()V
--   .end method
abbrev pub runnable_class : ClassInfo
runnable_class =
    linked_selecting (Some 0) [] [] (found (1 ∷ 2 ∷ 3 ∷ 4 ∷ []) ++ select.Abstract ∷ [])
    (class (codes "Ljava/lang/Runnable;") (Some (codes "Ljava/lang/Object;")) [] 0x1800 []
    (method (codes "run") [] None 0x1000 None ∷ []))

--   .class final Ljava/lang/Class;
--   .super Ljava/lang/Object;
abbrev pub class_class : ClassInfo
class_class =
    linked (Some 0) [] [] (1 ∷ 2 ∷ 3 ∷ 4 ∷ [])
    (class (codes "Ljava/lang/Class;") (Some (codes "Ljava/lang/Object;")) [] 0x10 []
    [])

--   .class Ljava/lang/Thread;
--   .super Ljava/lang/Object;
--   .implements Ljava/lang/Runnable;
--   .field target:Ljava/lang/Runnable;
--   .method constructor <init>()V
--   .registers 1
--   invoke-direct {p0}, Ljava/lang/Object;-><init>()V
--   return-void
--   .end method
--   .method constructor <init>(Ljava/lang/Runnable;)V
--   .registers 2
--   invoke-direct {p0}, Ljava/lang/Object;-><init>()V
--   iput-object p1, p0, Ljava/lang/Thread;->target:Ljava/lang/Runnable;
--   return-void
--   .end method
--   .method run()V
--   .registers 2
--   iget-object v0, p0, Ljava/lang/Thread;->target:Ljava/lang/Runnable;
--   if-eqz v0, :a
--   invoke-interface {v0}, Ljava/lang/Runnable;->run()V
--   :a
--   return-void
--   .end method
--   .method native start()V
--   .end method
--   .method native join()V
--   .end method
--   .method static native currentThread()Ljava/lang/Thread;
--   .end method
abbrev pub thread_class : ClassInfo
thread_class =
    linked (Some 0) (1 ∷ []) (0 ∷ []) (1 ∷ 2 ∷ 3 ∷ 4 ∷ 8 ∷ 9 ∷ 10 ∷ [])
    (class (codes "Ljava/lang/Thread;") (Some (codes "Ljava/lang/Object;")) (codes "Ljava/lang/Runnable;" ∷ []) 0
    (field (codes "target") (of_class (codes "Ljava/lang/Runnable;")) 0 ∷ [])
    (method (codes "<init>") [] None 0 (Some (naming [] (object_init_ref ∷ [])
    (body 1 (0x1070 ∷ 0x0000 ∷ 0x0000 ∷ 0x000e ∷ []))))
    ∷ method (codes "<init>") (of_class (codes "Ljava/lang/Runnable;") ∷ []) None 0
    (Some (naming
    (field_ref (codes "Ljava/lang/Thread;") (codes "target") (of_class (codes "Ljava/lang/Runnable;")) ∷ [])
    (object_init_ref ∷ [])
    (body 2 (0x1070 ∷ 0x0000 ∷ 0x0000 ∷ 0x015b ∷ 0x0000 ∷ 0x000e ∷ []))))
    ∷ method (codes "run") [] None 0 (Some (naming
    (field_ref (codes "Ljava/lang/Thread;") (codes "target") (of_class (codes "Ljava/lang/Runnable;")) ∷ [])
    (method_ref (codes "Ljava/lang/Runnable;") (codes "run") [] None ∷ [])
    (body 2 (0x1054 ∷ 0x0000 ∷ 0x0038 ∷ 0x0005 ∷ 0x1072 ∷ 0x0000 ∷ 0x0000 ∷ 0x000e ∷ []))))
    ∷ method (codes "start") [] None 0x400 None
    ∷ method (codes "join") [] None 0x400 None
    ∷ method (codes "currentThread") [] (Some (of_class (codes "Ljava/lang/Thread;"))) 0x408 None ∷ []))

--   .class final Ljava/lang/String;
--   .super Ljava/lang/Object;
--   .method native length()I
--   .end method
--   .method native charAt(I)C
--   .end method
--   .method native equals(Ljava/lang/Object;)Z
--   .end method
--   .method native concat(Ljava/lang/String;)Ljava/lang/String;
--   .end method
--   .method toString()Ljava/lang/String;
--   .registers 1
--   return-object p0
--   .end method
abbrev pub string_class : ClassInfo
string_class =
    linked (Some 0) [] [] (14 ∷ 2 ∷ 3 ∷ 4 ∷ 12 ∷ 13 ∷ 15 ∷ 16 ∷ [])
    (class (codes "Ljava/lang/String;") (Some (codes "Ljava/lang/Object;")) [] 0x10 []
    (method (codes "length") [] (Some of_int) 0x400 None
    ∷ method (codes "charAt") (of_int ∷ []) (Some of_char) 0x400 None
    ∷ method (codes "equals") (of_class (codes "Ljava/lang/Object;") ∷ []) (Some of_boolean) 0x400 None
    ∷ method (codes "concat") (of_class (codes "Ljava/lang/String;") ∷ []) (Some (of_class (codes "Ljava/lang/String;"))) 0x400 None
    ∷ method (codes "toString") [] (Some (of_class (codes "Ljava/lang/String;"))) 0 (Some (body 1 (0x0011 ∷ []))) ∷ []))

--   .class final Ljava/lang/StringBuilder;
--   .super Ljava/lang/Object;
--   .field text:Ljava/lang/String;
--   .method constructor <init>()V
--   .registers 2
--   invoke-direct {p0}, Ljava/lang/Object;-><init>()V
--   const-string v0, ""
--   iput-object v0, p0, Ljava/lang/StringBuilder;->text:Ljava/lang/String;
--   return-void
--   .end method
--   .method constructor <init>(Ljava/lang/String;)V
--   .registers 2
--   invoke-direct {p0}, Ljava/lang/Object;-><init>()V
--   invoke-virtual {p1}, Ljava/lang/String;->length()I
--   iput-object p1, p0, Ljava/lang/StringBuilder;->text:Ljava/lang/String;
--   return-void
--   .end method
--   .method append(Ljava/lang/String;)Ljava/lang/StringBuilder;
--   .registers 3
--   if-nez p1, :a
--   const-string p1, "null"
--   :a
--   iget-object v0, p0, Ljava/lang/StringBuilder;->text:Ljava/lang/String;
--   invoke-virtual {v0, p1}, Ljava/lang/String;->concat(Ljava/lang/String;)Ljava/lang/String;
--   move-result-object v0
--   iput-object v0, p0, Ljava/lang/StringBuilder;->text:Ljava/lang/String;
--   return-object p0
--   .end method
--   .method append(I)Ljava/lang/StringBuilder;
--   .registers 5
--   int-to-long v0, p1
--   invoke-static {v0, v1}, Ldvm/Text;->ofLong(J)Ljava/lang/String;
--   move-result-object v0
--   invoke-virtual {p0, v0}, Ljava/lang/StringBuilder;->append(Ljava/lang/String;)Ljava/lang/StringBuilder;
--   return-object p0
--   .end method
--   .method append(J)Ljava/lang/StringBuilder;
--   .registers 6
--   invoke-static {p1, p2}, Ldvm/Text;->ofLong(J)Ljava/lang/String;
--   move-result-object v0
--   invoke-virtual {p0, v0}, Ljava/lang/StringBuilder;->append(Ljava/lang/String;)Ljava/lang/StringBuilder;
--   return-object p0
--   .end method
--   .method append(C)Ljava/lang/StringBuilder;
--   .registers 5
--   const/4 v1, 0x1
--   new-array v0, v1, [C
--   const/4 v2, 0x0
--   aput-char p1, v0, v2
--   invoke-static {v0, v2, v1}, Ldvm/Text;->ofChars([CII)Ljava/lang/String;
--   move-result-object v0
--   invoke-virtual {p0, v0}, Ljava/lang/StringBuilder;->append(Ljava/lang/String;)Ljava/lang/StringBuilder;
--   return-object p0
--   .end method
--   .method append(Z)Ljava/lang/StringBuilder;
--   .registers 5
--   if-eqz p1, :a
--   const-string v0, "true"
--   goto :b
--   :a
--   const-string v0, "false"
--   :b
--   invoke-virtual {p0, v0}, Ljava/lang/StringBuilder;->append(Ljava/lang/String;)Ljava/lang/StringBuilder;
--   return-object p0
--   .end method
--   .method toString()Ljava/lang/String;
--   .registers 2
--   iget-object v0, p0, Ljava/lang/StringBuilder;->text:Ljava/lang/String;
--   return-object v0
--   .end method
--   .method length()I
--   .registers 2
--   iget-object v0, p0, Ljava/lang/StringBuilder;->text:Ljava/lang/String;
--   invoke-virtual {v0}, Ljava/lang/String;->length()I
--   move-result v0
--   return v0
--   .end method
abbrev pub string_builder_class : ClassInfo
string_builder_class =
    linked (Some 0) [] (1 ∷ []) (1 ∷ 2 ∷ 3 ∷ 4 ∷ 19 ∷ 20 ∷ 21 ∷ 22 ∷ 23 ∷ 24 ∷ 25 ∷ [])
    (class (codes "Ljava/lang/StringBuilder;") (Some (codes "Ljava/lang/Object;")) [] 0x10
    (field (codes "text") (of_class (codes "Ljava/lang/String;")) 0 ∷ [])
    (method (codes "<init>") [] None 0
    (Some (naming
    (field_ref (codes "Ljava/lang/StringBuilder;") (codes "text") (of_class (codes "Ljava/lang/String;")) ∷ [])
    (object_init_ref ∷ [])
    (body_with 2 (0x1070 ∷ 0x0000 ∷ 0x0001 ∷ 0x001a ∷ 0x0000 ∷ 0x105b ∷ 0x0000 ∷ 0x000e ∷ []) [] ([] ∷ []) [])))
    ∷ method (codes "<init>") (of_class (codes "Ljava/lang/String;") ∷ []) None 0
    (Some (naming
    (field_ref (codes "Ljava/lang/StringBuilder;") (codes "text") (of_class (codes "Ljava/lang/String;")) ∷ [])
    (object_init_ref ∷ method_ref (codes "Ljava/lang/String;") (codes "length") [] (Some of_int) ∷ [])
    (body 2 (0x1070 ∷ 0x0000 ∷ 0x0000 ∷ 0x106e ∷ 0x0001 ∷ 0x0001 ∷ 0x015b ∷ 0x0000 ∷ 0x000e ∷ []))))
    ∷ method (codes "append") (of_class (codes "Ljava/lang/String;") ∷ [])
    (Some (of_class (codes "Ljava/lang/StringBuilder;"))) 0
    (Some (naming
    (field_ref (codes "Ljava/lang/StringBuilder;") (codes "text") (of_class (codes "Ljava/lang/String;")) ∷ [])
    (method_ref (codes "Ljava/lang/String;") (codes "concat") (of_class (codes "Ljava/lang/String;") ∷ [])
    (Some (of_class (codes "Ljava/lang/String;"))) ∷ [])
    (body_with 3
    (0x0239 ∷ 0x0004 ∷ 0x021a ∷ 0x0000 ∷ 0x1054 ∷ 0x0000 ∷ 0x206e ∷ 0x0000 ∷ 0x0020 ∷ 0x000c ∷ 0x105b ∷
    0x0000 ∷ 0x0111 ∷ [])
    [] (codes "null" ∷ []) [])))
    ∷ method (codes "append") (of_int ∷ []) (Some (of_class (codes "Ljava/lang/StringBuilder;"))) 0
    (Some (naming []
    (method_ref (codes "Ldvm/Text;") (codes "ofLong") (of_long ∷ []) (Some (of_class (codes "Ljava/lang/String;"))) ∷
    method_ref (codes "Ljava/lang/StringBuilder;") (codes "append") (of_class (codes "Ljava/lang/String;") ∷ [])
    (Some (of_class (codes "Ljava/lang/StringBuilder;"))) ∷ [])
    (body 5 (0x4081 ∷ 0x2071 ∷ 0x0000 ∷ 0x0010 ∷ 0x000c ∷ 0x206e ∷ 0x0001 ∷ 0x0003 ∷ 0x0311 ∷ []))))
    ∷ method (codes "append") (of_long ∷ []) (Some (of_class (codes "Ljava/lang/StringBuilder;"))) 0
    (Some (naming []
    (method_ref (codes "Ldvm/Text;") (codes "ofLong") (of_long ∷ []) (Some (of_class (codes "Ljava/lang/String;"))) ∷
    method_ref (codes "Ljava/lang/StringBuilder;") (codes "append") (of_class (codes "Ljava/lang/String;") ∷ [])
    (Some (of_class (codes "Ljava/lang/StringBuilder;"))) ∷ [])
    (body 6 (0x2071 ∷ 0x0000 ∷ 0x0054 ∷ 0x000c ∷ 0x206e ∷ 0x0001 ∷ 0x0003 ∷ 0x0311 ∷ []))))
    ∷ method (codes "append") (of_char ∷ []) (Some (of_class (codes "Ljava/lang/StringBuilder;"))) 0
    (Some (naming []
    (method_ref (codes "Ldvm/Text;") (codes "ofChars") (array_of of_char ∷ of_int ∷ of_int ∷ [])
    (Some (of_class (codes "Ljava/lang/String;"))) ∷
    method_ref (codes "Ljava/lang/StringBuilder;") (codes "append") (of_class (codes "Ljava/lang/String;") ∷ [])
    (Some (of_class (codes "Ljava/lang/StringBuilder;"))) ∷ [])
    (body_with 5
    (0x1112 ∷ 0x1023 ∷ 0x0000 ∷ 0x0212 ∷ 0x0450 ∷ 0x0200 ∷ 0x3071 ∷ 0x0000 ∷ 0x0120 ∷ 0x000c ∷ 0x206e ∷
    0x0001 ∷ 0x0003 ∷ 0x0311 ∷ [])
    [] [] (array_of of_char ∷ []))))
    ∷ method (codes "append") (of_boolean ∷ []) (Some (of_class (codes "Ljava/lang/StringBuilder;"))) 0
    (Some (naming []
    (method_ref (codes "Ljava/lang/StringBuilder;") (codes "append") (of_class (codes "Ljava/lang/String;") ∷ [])
    (Some (of_class (codes "Ljava/lang/StringBuilder;"))) ∷ [])
    (body_with 5
    (0x0438 ∷ 0x0005 ∷ 0x001a ∷ 0x0000 ∷ 0x0328 ∷ 0x001a ∷ 0x0001 ∷ 0x206e ∷ 0x0000 ∷ 0x0003 ∷ 0x0311 ∷ [])
    [] (codes "true" ∷ codes "false" ∷ []) [])))
    ∷ method (codes "toString") [] (Some (of_class (codes "Ljava/lang/String;"))) 0 (Some (naming
    (field_ref (codes "Ljava/lang/StringBuilder;") (codes "text") (of_class (codes "Ljava/lang/String;")) ∷ []) []
    (body 2 (0x1054 ∷ 0x0000 ∷ 0x0011 ∷ []))))
    ∷ method (codes "length") [] (Some of_int) 0
    (Some (naming
    (field_ref (codes "Ljava/lang/StringBuilder;") (codes "text") (of_class (codes "Ljava/lang/String;")) ∷ [])
    (method_ref (codes "Ljava/lang/String;") (codes "length") [] (Some of_int) ∷ [])
    (body 2 (0x1054 ∷ 0x0000 ∷ 0x106e ∷ 0x0000 ∷ 0x0000 ∷ 0x000a ∷ 0x000f ∷ [])))) ∷ []))

--   .class final Ljava/lang/System;
--   .super Ljava/lang/Object;
--   .field static final out:Ljava/io/PrintStream;
abbrev pub system_class : ClassInfo
system_class =
    linked (Some 0) [] [] (1 ∷ 2 ∷ 3 ∷ 4 ∷ [])
    (class (codes "Ljava/lang/System;") (Some (codes "Ljava/lang/Object;")) [] 0x10
    (field (codes "out") (of_class (codes "Ljava/io/PrintStream;")) 0x18 ∷ [])
    [])

--   .class Ljava/io/PrintStream;
--   .super Ljava/lang/Object;
--   .method println()V
--   .registers 2
--   const-string v0, "\n"
--   invoke-static {v0}, Ldvm/Console;->print(Ljava/lang/String;)V
--   return-void
--   .end method
--   .method print(Ljava/lang/String;)V
--   .registers 5
--   if-nez p1, :a
--   const-string p1, "null"
--   :a
--   move-object v0, p1
--   invoke-static {v0}, Ldvm/Console;->print(Ljava/lang/String;)V
--   return-void
--   .end method
--   .method print(I)V
--   .registers 5
--   int-to-long v0, p1
--   invoke-static {v0, v1}, Ldvm/Text;->ofLong(J)Ljava/lang/String;
--   move-result-object v0
--   invoke-static {v0}, Ldvm/Console;->print(Ljava/lang/String;)V
--   return-void
--   .end method
--   .method print(J)V
--   .registers 6
--   invoke-static {p1, p2}, Ldvm/Text;->ofLong(J)Ljava/lang/String;
--   move-result-object v0
--   invoke-static {v0}, Ldvm/Console;->print(Ljava/lang/String;)V
--   return-void
--   .end method
--   .method print(C)V
--   .registers 5
--   const/4 v1, 0x1
--   new-array v0, v1, [C
--   const/4 v2, 0x0
--   aput-char p1, v0, v2
--   invoke-static {v0, v2, v1}, Ldvm/Text;->ofChars([CII)Ljava/lang/String;
--   move-result-object v0
--   invoke-static {v0}, Ldvm/Console;->print(Ljava/lang/String;)V
--   return-void
--   .end method
--   .method print(Z)V
--   .registers 5
--   if-eqz p1, :a
--   const-string v0, "true"
--   goto :b
--   :a
--   const-string v0, "false"
--   :b
--   invoke-static {v0}, Ldvm/Console;->print(Ljava/lang/String;)V
--   return-void
--   .end method
--   .method println(Ljava/lang/String;)V
--   .registers 5
--   if-nez p1, :a
--   const-string p1, "null"
--   :a
--   move-object v0, p1
--   const-string v1, "\n"
--   invoke-virtual {v0, v1}, Ljava/lang/String;->concat(Ljava/lang/String;)Ljava/lang/String;
--   move-result-object v0
--   invoke-static {v0}, Ldvm/Console;->print(Ljava/lang/String;)V
--   return-void
--   .end method
--   .method println(I)V
--   .registers 5
--   int-to-long v0, p1
--   invoke-static {v0, v1}, Ldvm/Text;->ofLong(J)Ljava/lang/String;
--   move-result-object v0
--   const-string v1, "\n"
--   invoke-virtual {v0, v1}, Ljava/lang/String;->concat(Ljava/lang/String;)Ljava/lang/String;
--   move-result-object v0
--   invoke-static {v0}, Ldvm/Console;->print(Ljava/lang/String;)V
--   return-void
--   .end method
--   .method println(J)V
--   .registers 6
--   invoke-static {p1, p2}, Ldvm/Text;->ofLong(J)Ljava/lang/String;
--   move-result-object v0
--   const-string v1, "\n"
--   invoke-virtual {v0, v1}, Ljava/lang/String;->concat(Ljava/lang/String;)Ljava/lang/String;
--   move-result-object v0
--   invoke-static {v0}, Ldvm/Console;->print(Ljava/lang/String;)V
--   return-void
--   .end method
--   .method println(C)V
--   .registers 5
--   const/4 v1, 0x1
--   new-array v0, v1, [C
--   const/4 v2, 0x0
--   aput-char p1, v0, v2
--   invoke-static {v0, v2, v1}, Ldvm/Text;->ofChars([CII)Ljava/lang/String;
--   move-result-object v0
--   const-string v1, "\n"
--   invoke-virtual {v0, v1}, Ljava/lang/String;->concat(Ljava/lang/String;)Ljava/lang/String;
--   move-result-object v0
--   invoke-static {v0}, Ldvm/Console;->print(Ljava/lang/String;)V
--   return-void
--   .end method
--   .method println(Z)V
--   .registers 5
--   if-eqz p1, :a
--   const-string v0, "true"
--   goto :b
--   :a
--   const-string v0, "false"
--   :b
--   const-string v1, "\n"
--   invoke-virtual {v0, v1}, Ljava/lang/String;->concat(Ljava/lang/String;)Ljava/lang/String;
--   move-result-object v0
--   invoke-static {v0}, Ldvm/Console;->print(Ljava/lang/String;)V
--   return-void
--   .end method
abbrev pub print_stream_class : ClassInfo
print_stream_class =
    linked (Some 0) [] [] (1 ∷ 2 ∷ 3 ∷ 4 ∷ 26 ∷ 27 ∷ 28 ∷ 29 ∷ 30 ∷ 31 ∷ 32 ∷ 33 ∷ 34 ∷ 35 ∷ 36 ∷ [])
    (class (codes "Ljava/io/PrintStream;") (Some (codes "Ljava/lang/Object;")) [] 0 []
    (method (codes "println") [] None 0
    (Some (naming []
    (method_ref (codes "Ldvm/Console;") (codes "print") (of_class (codes "Ljava/lang/String;") ∷ []) None ∷ [])
    (body_with 2 (0x001a ∷ 0x0000 ∷ 0x1071 ∷ 0x0000 ∷ 0x0000 ∷ 0x000e ∷ []) [] ((10 ∷ []) ∷ []) [])))
    ∷ method (codes "print") (of_class (codes "Ljava/lang/String;") ∷ []) None 0
    (Some (naming []
    (method_ref (codes "Ldvm/Console;") (codes "print") (of_class (codes "Ljava/lang/String;") ∷ []) None ∷ [])
    (body_with 5 (0x0439 ∷ 0x0004 ∷ 0x041a ∷ 0x0000 ∷ 0x4007 ∷ 0x1071 ∷ 0x0000 ∷ 0x0000 ∷ 0x000e ∷ [])
    [] (codes "null" ∷ []) [])))
    ∷ method (codes "print") (of_int ∷ []) None 0
    (Some (naming []
    (method_ref (codes "Ldvm/Text;") (codes "ofLong") (of_long ∷ []) (Some (of_class (codes "Ljava/lang/String;"))) ∷
    method_ref (codes "Ldvm/Console;") (codes "print") (of_class (codes "Ljava/lang/String;") ∷ []) None ∷ [])
    (body 5 (0x4081 ∷ 0x2071 ∷ 0x0000 ∷ 0x0010 ∷ 0x000c ∷ 0x1071 ∷ 0x0001 ∷ 0x0000 ∷ 0x000e ∷ []))))
    ∷ method (codes "print") (of_long ∷ []) None 0
    (Some (naming []
    (method_ref (codes "Ldvm/Text;") (codes "ofLong") (of_long ∷ []) (Some (of_class (codes "Ljava/lang/String;"))) ∷
    method_ref (codes "Ldvm/Console;") (codes "print") (of_class (codes "Ljava/lang/String;") ∷ []) None ∷ [])
    (body 6 (0x2071 ∷ 0x0000 ∷ 0x0054 ∷ 0x000c ∷ 0x1071 ∷ 0x0001 ∷ 0x0000 ∷ 0x000e ∷ []))))
    ∷ method (codes "print") (of_char ∷ []) None 0
    (Some (naming []
    (method_ref (codes "Ldvm/Text;") (codes "ofChars") (array_of of_char ∷ of_int ∷ of_int ∷ [])
    (Some (of_class (codes "Ljava/lang/String;"))) ∷
    method_ref (codes "Ldvm/Console;") (codes "print") (of_class (codes "Ljava/lang/String;") ∷ []) None ∷ [])
    (body_with 5
    (0x1112 ∷ 0x1023 ∷ 0x0000 ∷ 0x0212 ∷ 0x0450 ∷ 0x0200 ∷ 0x3071 ∷ 0x0000 ∷ 0x0120 ∷ 0x000c ∷ 0x1071 ∷
    0x0001 ∷ 0x0000 ∷ 0x000e ∷ [])
    [] [] (array_of of_char ∷ []))))
    ∷ method (codes "print") (of_boolean ∷ []) None 0
    (Some (naming []
    (method_ref (codes "Ldvm/Console;") (codes "print") (of_class (codes "Ljava/lang/String;") ∷ []) None ∷ [])
    (body_with 5
    (0x0438 ∷ 0x0005 ∷ 0x001a ∷ 0x0000 ∷ 0x0328 ∷ 0x001a ∷ 0x0001 ∷ 0x1071 ∷ 0x0000 ∷ 0x0000 ∷ 0x000e ∷ [])
    [] (codes "true" ∷ codes "false" ∷ []) [])))
    ∷ method (codes "println") (of_class (codes "Ljava/lang/String;") ∷ []) None 0
    (Some (naming []
    (method_ref (codes "Ljava/lang/String;") (codes "concat") (of_class (codes "Ljava/lang/String;") ∷ [])
    (Some (of_class (codes "Ljava/lang/String;"))) ∷
    method_ref (codes "Ldvm/Console;") (codes "print") (of_class (codes "Ljava/lang/String;") ∷ []) None ∷ [])
    (body_with 5
    (0x0439 ∷ 0x0004 ∷ 0x041a ∷ 0x0000 ∷ 0x4007 ∷ 0x011a ∷ 0x0001 ∷ 0x206e ∷ 0x0000 ∷ 0x0010 ∷ 0x000c ∷
    0x1071 ∷ 0x0001 ∷ 0x0000 ∷ 0x000e ∷ [])
    [] (codes "null" ∷ (10 ∷ []) ∷ []) [])))
    ∷ method (codes "println") (of_int ∷ []) None 0
    (Some (naming []
    (method_ref (codes "Ldvm/Text;") (codes "ofLong") (of_long ∷ []) (Some (of_class (codes "Ljava/lang/String;"))) ∷
    method_ref (codes "Ljava/lang/String;") (codes "concat") (of_class (codes "Ljava/lang/String;") ∷ [])
    (Some (of_class (codes "Ljava/lang/String;"))) ∷
    method_ref (codes "Ldvm/Console;") (codes "print") (of_class (codes "Ljava/lang/String;") ∷ []) None ∷ [])
    (body_with 5
    (0x4081 ∷ 0x2071 ∷ 0x0000 ∷ 0x0010 ∷ 0x000c ∷ 0x011a ∷ 0x0000 ∷ 0x206e ∷ 0x0001 ∷ 0x0010 ∷ 0x000c ∷
    0x1071 ∷ 0x0002 ∷ 0x0000 ∷ 0x000e ∷ [])
    [] ((10 ∷ []) ∷ []) [])))
    ∷ method (codes "println") (of_long ∷ []) None 0
    (Some (naming []
    (method_ref (codes "Ldvm/Text;") (codes "ofLong") (of_long ∷ []) (Some (of_class (codes "Ljava/lang/String;"))) ∷
    method_ref (codes "Ljava/lang/String;") (codes "concat") (of_class (codes "Ljava/lang/String;") ∷ [])
    (Some (of_class (codes "Ljava/lang/String;"))) ∷
    method_ref (codes "Ldvm/Console;") (codes "print") (of_class (codes "Ljava/lang/String;") ∷ []) None ∷ [])
    (body_with 6
    (0x2071 ∷ 0x0000 ∷ 0x0054 ∷ 0x000c ∷ 0x011a ∷ 0x0000 ∷ 0x206e ∷ 0x0001 ∷ 0x0010 ∷ 0x000c ∷ 0x1071 ∷
    0x0002 ∷ 0x0000 ∷ 0x000e ∷ [])
    [] ((10 ∷ []) ∷ []) [])))
    ∷ method (codes "println") (of_char ∷ []) None 0
    (Some (naming []
    (method_ref (codes "Ldvm/Text;") (codes "ofChars") (array_of of_char ∷ of_int ∷ of_int ∷ [])
    (Some (of_class (codes "Ljava/lang/String;"))) ∷
    method_ref (codes "Ljava/lang/String;") (codes "concat") (of_class (codes "Ljava/lang/String;") ∷ [])
    (Some (of_class (codes "Ljava/lang/String;"))) ∷
    method_ref (codes "Ldvm/Console;") (codes "print") (of_class (codes "Ljava/lang/String;") ∷ []) None ∷ [])
    (body_with 5
    (0x1112 ∷ 0x1023 ∷ 0x0000 ∷ 0x0212 ∷ 0x0450 ∷ 0x0200 ∷ 0x3071 ∷ 0x0000 ∷ 0x0120 ∷ 0x000c ∷ 0x011a ∷
    0x0000 ∷ 0x206e ∷ 0x0001 ∷ 0x0010 ∷ 0x000c ∷ 0x1071 ∷ 0x0002 ∷ 0x0000 ∷ 0x000e ∷ [])
    [] ((10 ∷ []) ∷ []) (array_of of_char ∷ []))))
    ∷ method (codes "println") (of_boolean ∷ []) None 0
    (Some (naming []
    (method_ref (codes "Ljava/lang/String;") (codes "concat") (of_class (codes "Ljava/lang/String;") ∷ [])
    (Some (of_class (codes "Ljava/lang/String;"))) ∷
    method_ref (codes "Ldvm/Console;") (codes "print") (of_class (codes "Ljava/lang/String;") ∷ []) None ∷ [])
    (body_with 5
    (0x0438 ∷ 0x0005 ∷ 0x001a ∷ 0x0000 ∷ 0x0328 ∷ 0x001a ∷ 0x0001 ∷ 0x011a ∷ 0x0002 ∷ 0x206e ∷ 0x0000 ∷
    0x0010 ∷ 0x000c ∷ 0x1071 ∷ 0x0001 ∷ 0x0000 ∷ 0x000e ∷ [])
    [] (codes "true" ∷ codes "false" ∷ (10 ∷ []) ∷ []) []))) ∷ []))

--   .class Ldvm/Text;
--   .super Ljava/lang/Object;
--   .method static native ofLong(J)Ljava/lang/String;
--   .end method
--   .method static native ofChars([CII)Ljava/lang/String;
--   .end method
abbrev pub text_class : ClassInfo
text_class =
    linked (Some 0) [] [] (1 ∷ 2 ∷ 3 ∷ 4 ∷ [])
    (class (codes "Ldvm/Text;") (Some (codes "Ljava/lang/Object;")) [] 0 []
    (method (codes "ofLong") (of_long ∷ []) (Some (of_class (codes "Ljava/lang/String;"))) 0x408 None
    ∷ method (codes "ofChars") (array_of of_char ∷ of_int ∷ of_int ∷ []) (Some (of_class (codes "Ljava/lang/String;"))) 0x408 None ∷ []))

--   .class Ldvm/Console;
--   .super Ljava/lang/Object;
--   .method static native print(Ljava/lang/String;)V
--   .end method
--   .method static native println(I)V
--   .end method
abbrev pub console_class : ClassInfo
console_class =
    linked (Some 0) [] [] (1 ∷ 2 ∷ 3 ∷ 4 ∷ [])
    (class (codes "Ldvm/Console;") (Some (codes "Ljava/lang/Object;")) [] 0 []
    (method (codes "print") (of_class (codes "Ljava/lang/String;") ∷ []) None 0x408 None
    ∷ method (codes "println") (of_int ∷ []) None 0x408 None ∷ []))

--   .class Ljava/lang/Throwable;
--   .super Ljava/lang/Object;
--   .field message:Ljava/lang/String;
--   .field cause:Ljava/lang/Throwable;
--   .method constructor <init>()V
--   .registers 1
--   invoke-direct {p0}, Ljava/lang/Object;-><init>()V
--   return-void
--   .end method
--   .method constructor <init>(Ljava/lang/String;)V
--   .registers 2
--   invoke-direct {p0}, Ljava/lang/Object;-><init>()V
--   iput-object p1, p0, Ljava/lang/Throwable;->message:Ljava/lang/String;
--   return-void
--   .end method
--   .method constructor <init>(Ljava/lang/String;Ljava/lang/Throwable;)V
--   .registers 3
--   invoke-direct {p0}, Ljava/lang/Object;-><init>()V
--   iput-object p1, p0, Ljava/lang/Throwable;->message:Ljava/lang/String;
--   iput-object p2, p0, Ljava/lang/Throwable;->cause:Ljava/lang/Throwable;
--   return-void
--   .end method
--   .method constructor <init>(Ljava/lang/Throwable;)V
--   .registers 2
--   invoke-direct {p0}, Ljava/lang/Object;-><init>()V
--   iput-object p1, p0, Ljava/lang/Throwable;->cause:Ljava/lang/Throwable;
--   return-void
--   .end method
--   .method getMessage()Ljava/lang/String;
--   .registers 2
--   iget-object v0, p0, Ljava/lang/Throwable;->message:Ljava/lang/String;
--   return-object v0
--   .end method
--   .method getCause()Ljava/lang/Throwable;
--   .registers 2
--   iget-object v0, p0, Ljava/lang/Throwable;->cause:Ljava/lang/Throwable;
--   return-object v0
--   .end method
abbrev pub throwable_class : ClassInfo
throwable_class =
    linked (Some 0) [] (3 ∷ 4 ∷ []) (1 ∷ 2 ∷ 3 ∷ 4 ∷ 45 ∷ 46 ∷ [])
    (class (codes "Ljava/lang/Throwable;") (Some (codes "Ljava/lang/Object;")) [] 0
    (field (codes "message") (of_class (codes "Ljava/lang/String;")) 0 ∷
    field (codes "cause") (of_class (codes "Ljava/lang/Throwable;")) 0 ∷ [])
    (method (codes "<init>") [] None 0 (Some (naming [] (object_init_ref ∷ [])
    (body 1 (0x1070 ∷ 0x0000 ∷ 0x0000 ∷ 0x000e ∷ []))))
    ∷ method (codes "<init>") (of_class (codes "Ljava/lang/String;") ∷ []) None 0
    (Some (naming
    (field_ref (codes "Ljava/lang/Throwable;") (codes "message") (of_class (codes "Ljava/lang/String;")) ∷ [])
    (object_init_ref ∷ [])
    (body 2 (0x1070 ∷ 0x0000 ∷ 0x0000 ∷ 0x015b ∷ 0x0000 ∷ 0x000e ∷ []))))
    ∷ method (codes "<init>") (of_class (codes "Ljava/lang/String;") ∷ of_class (codes "Ljava/lang/Throwable;") ∷ [])
    None 0 (Some (naming
    (field_ref (codes "Ljava/lang/Throwable;") (codes "message") (of_class (codes "Ljava/lang/String;")) ∷
    field_ref (codes "Ljava/lang/Throwable;") (codes "cause") (of_class (codes "Ljava/lang/Throwable;")) ∷ [])
    (object_init_ref ∷ [])
    (body 3 (0x1070 ∷ 0x0000 ∷ 0x0000 ∷ 0x015b ∷ 0x0000 ∷ 0x025b ∷ 0x0001 ∷ 0x000e ∷ []))))
    ∷ method (codes "<init>") (of_class (codes "Ljava/lang/Throwable;") ∷ []) None 0
    (Some (naming
    (field_ref (codes "Ljava/lang/Throwable;") (codes "cause") (of_class (codes "Ljava/lang/Throwable;")) ∷ [])
    (object_init_ref ∷ [])
    (body 2 (0x1070 ∷ 0x0000 ∷ 0x0000 ∷ 0x015b ∷ 0x0000 ∷ 0x000e ∷ []))))
    ∷ method (codes "getMessage") [] (Some (of_class (codes "Ljava/lang/String;"))) 0 (Some (naming
    (field_ref (codes "Ljava/lang/Throwable;") (codes "message") (of_class (codes "Ljava/lang/String;")) ∷ []) []
    (body 2 (0x1054 ∷ 0x0000 ∷ 0x0011 ∷ []))))
    ∷ method (codes "getCause") [] (Some (of_class (codes "Ljava/lang/Throwable;"))) 0
    (Some (naming
    (field_ref (codes "Ljava/lang/Throwable;") (codes "cause") (of_class (codes "Ljava/lang/Throwable;")) ∷ []) []
    (body 2 (0x1054 ∷ 0x0000 ∷ 0x0011 ∷ [])))) ∷ []))

-- ---- the classes of exceptions

-- the constructors that all of them have; SUPER is the superclass
--   .method constructor <init>()V
--   .registers 1
--   invoke-direct {p0}, SUPER-><init>()V
--   return-void
--   .end method
--   .method constructor <init>(Ljava/lang/String;)V
--   .registers 2
--   invoke-direct {p0, p1}, SUPER-><init>(Ljava/lang/String;)V
--   return-void
--   .end method
abbrev pub plain_constructors : List ℕ → List MethodDef
plain_constructors super =
    method (codes "<init>") [] None 0
    (Some (naming [] (method_ref super (codes "<init>") [] None ∷ []) (body 1 (0x1070 ∷ 0x0000 ∷ 0x0000 ∷ 0x000e ∷ [])))) ∷
    method (codes "<init>") (of_class (codes "Ljava/lang/String;") ∷ []) None 0
    (Some (naming [] (method_ref super (codes "<init>") (of_class (codes "Ljava/lang/String;") ∷ []) None ∷ [])
    (body 2 (0x2070 ∷ 0x0000 ∷ 0x0010 ∷ 0x000e ∷ [])))) ∷ []

-- and those with a cause, which some have beside them
--   .method constructor <init>(Ljava/lang/String;Ljava/lang/Throwable;)V
--   .registers 3
--   invoke-direct {p0, p1, p2}, SUPER-><init>(Ljava/lang/String;Ljava/lang/Throwable;)V
--   return-void
--   .end method
--   .method constructor <init>(Ljava/lang/Throwable;)V
--   .registers 2
--   invoke-direct {p0, p1}, SUPER-><init>(Ljava/lang/Throwable;)V
--   return-void
--   .end method
abbrev pub cause_constructors : List ℕ → List MethodDef
cause_constructors super =
    method (codes "<init>") (of_class (codes "Ljava/lang/String;") ∷ of_class (codes "Ljava/lang/Throwable;") ∷ [])
    None 0
    (Some (naming []
    (method_ref super (codes "<init>") (of_class (codes "Ljava/lang/String;") ∷ of_class (codes "Ljava/lang/Throwable;") ∷ []) None ∷ [])
    (body 3 (0x3070 ∷ 0x0000 ∷ 0x0210 ∷ 0x000e ∷ [])))) ∷
    method (codes "<init>") (of_class (codes "Ljava/lang/Throwable;") ∷ []) None 0
    (Some (naming [] (method_ref super (codes "<init>") (of_class (codes "Ljava/lang/Throwable;") ∷ []) None ∷ [])
    (body 2 (0x2070 ∷ 0x0000 ∷ 0x0010 ∷ 0x000e ∷ [])))) ∷ []

abbrev pub all_constructors : List ℕ → List MethodDef
all_constructors super = plain_constructors super ++ cause_constructors super

-- under the superclass of this number and name, with these constructors, the fields of Throwable and its methods
abbrev pub exception_under : ℕ → List ℕ → List ℕ → (List ℕ → List MethodDef) → ClassInfo
exception_under parent super name constructors =
    linked (Some parent) [] (3 ∷ 4 ∷ []) (1 ∷ 2 ∷ 3 ∷ 4 ∷ 45 ∷ 46 ∷ []) (class name (Some super) [] 0 [] (constructors super))

--   .class Ljava/lang/Exception;
--   .super Ljava/lang/Throwable;
abbrev pub exception_class : ClassInfo
exception_class =
    exception_under 10 (codes "Ljava/lang/Throwable;") (codes "Ljava/lang/Exception;") all_constructors

--   .class Ljava/lang/Error;
--   .super Ljava/lang/Throwable;
abbrev pub error_class : ClassInfo
error_class = exception_under 10 (codes "Ljava/lang/Throwable;") (codes "Ljava/lang/Error;") all_constructors

--   .class Ljava/lang/RuntimeException;
--   .super Ljava/lang/Exception;
abbrev pub runtime_exception_class : ClassInfo
runtime_exception_class =
    exception_under 11 (codes "Ljava/lang/Exception;") (codes "Ljava/lang/RuntimeException;") all_constructors

--   .class Ljava/lang/InterruptedException;
--   .super Ljava/lang/Exception;
abbrev pub interrupted_exception_class : ClassInfo
interrupted_exception_class =
    exception_under 11 (codes "Ljava/lang/Exception;") (codes "Ljava/lang/InterruptedException;") plain_constructors

--   .class Ljava/lang/ArithmeticException;
--   .super Ljava/lang/RuntimeException;
abbrev pub arithmetic_exception_class : ClassInfo
arithmetic_exception_class =
    exception_under 13 (codes "Ljava/lang/RuntimeException;") (codes "Ljava/lang/ArithmeticException;") plain_constructors

--   .class Ljava/lang/NullPointerException;
--   .super Ljava/lang/RuntimeException;
abbrev pub null_pointer_exception_class : ClassInfo
null_pointer_exception_class =
    exception_under 13 (codes "Ljava/lang/RuntimeException;") (codes "Ljava/lang/NullPointerException;") plain_constructors

--   .class Ljava/lang/NegativeArraySizeException;
--   .super Ljava/lang/RuntimeException;
abbrev pub negative_array_size_exception_class : ClassInfo
negative_array_size_exception_class =
    exception_under 13 (codes "Ljava/lang/RuntimeException;") (codes "Ljava/lang/NegativeArraySizeException;") plain_constructors

--   .class Ljava/lang/ClassCastException;
--   .super Ljava/lang/RuntimeException;
abbrev pub class_cast_exception_class : ClassInfo
class_cast_exception_class =
    exception_under 13 (codes "Ljava/lang/RuntimeException;") (codes "Ljava/lang/ClassCastException;") plain_constructors

--   .class Ljava/lang/ArrayStoreException;
--   .super Ljava/lang/RuntimeException;
abbrev pub array_store_exception_class : ClassInfo
array_store_exception_class =
    exception_under 13 (codes "Ljava/lang/RuntimeException;") (codes "Ljava/lang/ArrayStoreException;") plain_constructors

--   .class Ljava/lang/IllegalMonitorStateException;
--   .super Ljava/lang/RuntimeException;
abbrev pub illegal_monitor_state_exception_class : ClassInfo
illegal_monitor_state_exception_class =
    exception_under 13 (codes "Ljava/lang/RuntimeException;") (codes "Ljava/lang/IllegalMonitorStateException;") plain_constructors

--   .class Ljava/lang/IndexOutOfBoundsException;
--   .super Ljava/lang/RuntimeException;
abbrev pub index_out_of_bounds_exception_class : ClassInfo
index_out_of_bounds_exception_class =
    exception_under 13 (codes "Ljava/lang/RuntimeException;") (codes "Ljava/lang/IndexOutOfBoundsException;") plain_constructors

--   .class Ljava/lang/IllegalArgumentException;
--   .super Ljava/lang/RuntimeException;
abbrev pub illegal_argument_exception_class : ClassInfo
illegal_argument_exception_class =
    exception_under 13 (codes "Ljava/lang/RuntimeException;") (codes "Ljava/lang/IllegalArgumentException;") plain_constructors

--   .class Ljava/lang/ArrayIndexOutOfBoundsException;
--   .super Ljava/lang/IndexOutOfBoundsException;
abbrev pub array_index_out_of_bounds_exception_class : ClassInfo
array_index_out_of_bounds_exception_class =
    exception_under 21 (codes "Ljava/lang/IndexOutOfBoundsException;") (codes "Ljava/lang/ArrayIndexOutOfBoundsException;") plain_constructors

--   .class Ljava/lang/IllegalThreadStateException;
--   .super Ljava/lang/IllegalArgumentException;
abbrev pub illegal_thread_state_exception_class : ClassInfo
illegal_thread_state_exception_class =
    exception_under 22 (codes "Ljava/lang/IllegalArgumentException;") (codes "Ljava/lang/IllegalThreadStateException;") plain_constructors

--   .class Ljava/lang/LinkageError;
--   .super Ljava/lang/Error;
abbrev pub linkage_error_class : ClassInfo
linkage_error_class =
    exception_under 12 (codes "Ljava/lang/Error;") (codes "Ljava/lang/LinkageError;") plain_constructors

--   .class Ljava/lang/VirtualMachineError;
--   .super Ljava/lang/Error;
abbrev pub virtual_machine_error_class : ClassInfo
virtual_machine_error_class =
    exception_under 12 (codes "Ljava/lang/Error;") (codes "Ljava/lang/VirtualMachineError;") plain_constructors

--   .class Ljava/lang/NoClassDefFoundError;
--   .super Ljava/lang/LinkageError;
abbrev pub no_class_def_found_error_class : ClassInfo
no_class_def_found_error_class =
    exception_under 25 (codes "Ljava/lang/LinkageError;") (codes "Ljava/lang/NoClassDefFoundError;") plain_constructors

--   .class Ljava/lang/ExceptionInInitializerError;
--   .super Ljava/lang/LinkageError;
--   .method constructor <init>(Ljava/lang/Throwable;)V
--   .registers 2
--   invoke-direct {p0}, Ljava/lang/LinkageError;-><init>()V
--   iput-object p1, p0, Ljava/lang/Throwable;->cause:Ljava/lang/Throwable;
--   return-void
--   .end method
abbrev pub exception_in_initializer_error_class : ClassInfo
exception_in_initializer_error_class =
    exception_under 25 (codes "Ljava/lang/LinkageError;") (codes "Ljava/lang/ExceptionInInitializerError;")
    (λ super. plain_constructors super ++
    method (codes "<init>") (of_class (codes "Ljava/lang/Throwable;") ∷ []) None 0
    (Some (naming (field_ref (codes "Ljava/lang/Throwable;") (codes "cause") (of_class (codes "Ljava/lang/Throwable;")) ∷ [])
    (method_ref super (codes "<init>") [] None ∷ [])
    (body 2 (0x1070 ∷ 0x0000 ∷ 0x0000 ∷ 0x015b ∷ 0x0000 ∷ 0x000e ∷ [])))) ∷ [])

--   .class Ljava/lang/IncompatibleClassChangeError;
--   .super Ljava/lang/LinkageError;
abbrev pub incompatible_class_change_error_class : ClassInfo
incompatible_class_change_error_class =
    exception_under 25 (codes "Ljava/lang/LinkageError;") (codes "Ljava/lang/IncompatibleClassChangeError;") plain_constructors

--   .class Ljava/lang/AbstractMethodError;
--   .super Ljava/lang/IncompatibleClassChangeError;
abbrev pub abstract_method_error_class : ClassInfo
abstract_method_error_class =
    exception_under 29 (codes "Ljava/lang/IncompatibleClassChangeError;") (codes "Ljava/lang/AbstractMethodError;") plain_constructors

--   .class Ljava/lang/OutOfMemoryError;
--   .super Ljava/lang/VirtualMachineError;
abbrev pub out_of_memory_error_class : ClassInfo
out_of_memory_error_class =
    exception_under 26 (codes "Ljava/lang/VirtualMachineError;") (codes "Ljava/lang/OutOfMemoryError;") plain_constructors

--   .class Ljava/lang/StackOverflowError;
--   .super Ljava/lang/VirtualMachineError;
abbrev pub stack_overflow_error_class : ClassInfo
stack_overflow_error_class =
    exception_under 26 (codes "Ljava/lang/VirtualMachineError;") (codes "Ljava/lang/StackOverflowError;") plain_constructors

-- by number, from 0
abbrev pub boot_classes : List ClassInfo
boot_classes =
    object_class ∷ runnable_class ∷ class_class ∷ thread_class ∷ string_class ∷ string_builder_class ∷
    system_class ∷ print_stream_class ∷ text_class ∷ console_class ∷ throwable_class ∷ exception_class ∷
    error_class ∷ runtime_exception_class ∷ interrupted_exception_class ∷ arithmetic_exception_class ∷
    null_pointer_exception_class ∷ negative_array_size_exception_class ∷ class_cast_exception_class ∷
    array_store_exception_class ∷ illegal_monitor_state_exception_class ∷ index_out_of_bounds_exception_class ∷
    illegal_argument_exception_class ∷ array_index_out_of_bounds_exception_class ∷
    illegal_thread_state_exception_class ∷ linkage_error_class ∷ virtual_machine_error_class ∷
    no_class_def_found_error_class ∷ exception_in_initializer_error_class ∷
    incompatible_class_change_error_class ∷ abstract_method_error_class ∷ out_of_memory_error_class ∷
    stack_overflow_error_class ∷ []
