-- Examples: threads and monitors.
use Rattle.std.specs.Prelude.{◌≡◌, [], ◌∷◌, Some, None, codes}
use Rattle.dv_defs.specs.Images.{Image}
use Rattle.dv_defs.specs.Types.{of_class}
use Rattle.dv_defs.specs.Common.{array_of}
use Rattle.dv_typing.specs.Accepting.{Accepts}
use Rattle.test_machine.specs.Images.{of_int, of_boolean, catch_type, catch_all, entry_over, body, body_with, method, field, class, info, field_info, naming, method_ref, field_ref, println_ref, object_init_ref, linked}
use Rattle.test_machine.specs.BootImage.{with_boot}
use Rattle.test_machine.specs.Outcomes.{lines, outcome}

--   .class LMain;
--   .super Ljava/lang/Object;
--   .field static o:Ljava/lang/Object;
--   .method static main()V
--   .registers 3
--   new-instance v0, Ljava/lang/Object;
--   invoke-direct {v0}, Ljava/lang/Object;-><init>()V
--   sput-object v0, LMain;->o:Ljava/lang/Object;
--   new-instance v1, LT;
--   invoke-direct {v1}, LT;-><init>()V
--   monitor-enter v0
--   monitor-enter v0
--   invoke-virtual {v1}, LT;->start()V
--   invoke-virtual {v0}, Ljava/lang/Object;->wait()V
--   monitor-exit v0
--   monitor-exit v0
--   const/4 v2, 0x2
--   invoke-static {v2}, Ldvm/Console;->println(I)V
--   monitor-exit v0
--   return-void
--   .end method
--   .method static alone()V
--   .registers 1
--   new-instance v0, Ljava/lang/Object;
--   invoke-direct {v0}, Ljava/lang/Object;-><init>()V
--   invoke-virtual {v0}, Ljava/lang/Object;->wait()V
--   return-void
--   .end method
--   .method static forever()V
--   .registers 1
--   new-instance v0, Ljava/lang/Object;
--   invoke-direct {v0}, Ljava/lang/Object;-><init>()V
--   monitor-enter v0
--   invoke-virtual {v0}, Ljava/lang/Object;->wait()V
--   return-void
--   .end method
--   .method static joins()V
--   .registers 3
--   new-instance v0, LT;
--   invoke-direct {v0}, LT;-><init>()V
--   new-instance v1, Ljava/lang/Object;
--   invoke-direct {v1}, Ljava/lang/Object;-><init>()V
--   sput-object v1, LMain;->o:Ljava/lang/Object;
--   invoke-virtual {v0}, LT;->join()V
--   invoke-virtual {v0}, LT;->start()V
--   invoke-virtual {v0}, LT;->join()V
--   const/4 v2, 0x5
--   invoke-static {v2}, Ldvm/Console;->println(I)V
--   invoke-virtual {v0}, LT;->start()V
--   return-void
--   .end method
--   .method static joins_itself()V
--   .registers 1
--   invoke-static {}, Ljava/lang/Thread;->currentThread()Ljava/lang/Thread;
--   move-result-object v0
--   invoke-virtual {v0}, Ljava/lang/Thread;->join()V
--   return-void
--   .end method
--   .method static held()V
--   .registers 3
--   new-instance v0, Ljava/lang/Object;
--   invoke-direct {v0}, Ljava/lang/Object;-><init>()V
--   sput-object v0, LMain;->o:Ljava/lang/Object;
--   monitor-enter v0
--   new-instance v1, LT;
--   invoke-direct {v1}, LT;-><init>()V
--   invoke-virtual {v1}, LT;->start()V
--   invoke-virtual {v1}, LT;->join()V
--   return-void
--   .end method
--   .class LT;
--   .super Ljava/lang/Thread;
--   .method constructor <init>()V
--   .registers 1
--   invoke-direct {p0}, Ljava/lang/Thread;-><init>()V
--   return-void
--   .end method
--   .method run()V
--   .registers 2
--   sget-object v0, LMain;->o:Ljava/lang/Object;
--   monitor-enter v0
--   invoke-virtual {v0}, Ljava/lang/Object;->notify()V
--   monitor-exit v0
--   return-void
--   .end method
abbrev pub waiting_program : Image
waiting_program = with_boot
    (linked (Some 0) [] [] (1 ∷ 2 ∷ 3 ∷ 4 ∷ [])
    (class (codes "LMain;") (Some (codes "Ljava/lang/Object;")) [] 0
    (field (codes "o") (of_class (codes "Ljava/lang/Object;")) 8 ∷ [])
    (method (codes "main") [] None 8
    (Some (naming
    (field_ref (codes "LMain;") (codes "o") (of_class (codes "Ljava/lang/Object;")) ∷ [])
    (object_init_ref ∷
    method_ref (codes "LT;") (codes "<init>") [] None ∷
    method_ref (codes "LT;") (codes "start") [] None ∷
    method_ref (codes "Ljava/lang/Object;") (codes "wait") [] None ∷
    println_ref ∷ [])
    (body_with 3
    (0x0022 ∷ 0x0000 ∷ 0x1070 ∷ 0x0000 ∷ 0x0000 ∷ 0x0069 ∷ 0x0000 ∷ 0x0122 ∷ 0x0001 ∷ 0x1070 ∷ 0x0001 ∷
    0x0001 ∷ 0x001d ∷ 0x001d ∷ 0x106e ∷ 0x0002 ∷ 0x0001 ∷ 0x106e ∷ 0x0003 ∷ 0x0000 ∷ 0x001e ∷ 0x001e ∷
    0x2212 ∷ 0x1071 ∷ 0x0004 ∷ 0x0002 ∷ 0x001e ∷ 0x000e ∷ [])
    [] [] (of_class (codes "Ljava/lang/Object;") ∷ of_class (codes "LT;") ∷ []))))
    ∷ method (codes "alone") [] None 8
    (Some (naming [] (object_init_ref ∷ method_ref (codes "Ljava/lang/Object;") (codes "wait") [] None ∷ [])
    (body_with 1 (0x0022 ∷ 0x0000 ∷ 0x1070 ∷ 0x0000 ∷ 0x0000 ∷ 0x106e ∷ 0x0001 ∷ 0x0000 ∷ 0x000e ∷ [])
    [] [] (of_class (codes "Ljava/lang/Object;") ∷ []))))
    ∷ method (codes "forever") [] None 8
    (Some (naming [] (object_init_ref ∷ method_ref (codes "Ljava/lang/Object;") (codes "wait") [] None ∷ [])
    (body_with 1 (0x0022 ∷ 0x0000 ∷ 0x1070 ∷ 0x0000 ∷ 0x0000 ∷ 0x001d ∷ 0x106e ∷ 0x0001 ∷ 0x0000 ∷ 0x000e ∷ [])
    [] [] (of_class (codes "Ljava/lang/Object;") ∷ []))))
    ∷ method (codes "joins") [] None 8
    (Some (naming
    (field_ref (codes "LMain;") (codes "o") (of_class (codes "Ljava/lang/Object;")) ∷ [])
    (method_ref (codes "LT;") (codes "<init>") [] None ∷
    object_init_ref ∷
    method_ref (codes "LT;") (codes "join") [] None ∷
    method_ref (codes "LT;") (codes "start") [] None ∷
    println_ref ∷ [])
    (body_with 3
    (0x0022 ∷ 0x0000 ∷ 0x1070 ∷ 0x0000 ∷ 0x0000 ∷ 0x0122 ∷ 0x0001 ∷ 0x1070 ∷ 0x0001 ∷ 0x0001 ∷ 0x0169 ∷
    0x0000 ∷ 0x106e ∷ 0x0002 ∷ 0x0000 ∷ 0x106e ∷ 0x0003 ∷ 0x0000 ∷ 0x106e ∷ 0x0002 ∷ 0x0000 ∷ 0x5212 ∷
    0x1071 ∷ 0x0004 ∷ 0x0002 ∷ 0x106e ∷ 0x0003 ∷ 0x0000 ∷ 0x000e ∷ [])
    [] [] (of_class (codes "LT;") ∷ of_class (codes "Ljava/lang/Object;") ∷ []))))
    ∷ method (codes "joins_itself") [] None 8 (Some (naming []
    (method_ref (codes "Ljava/lang/Thread;") (codes "currentThread") []
    (Some (of_class (codes "Ljava/lang/Thread;"))) ∷
    method_ref (codes "Ljava/lang/Thread;") (codes "join") [] None ∷ [])
    (body 1 (0x0071 ∷ 0x0000 ∷ 0x0000 ∷ 0x000c ∷ 0x106e ∷ 0x0001 ∷ 0x0000 ∷ 0x000e ∷ []))))
    ∷ method (codes "held") [] None 8
    (Some (naming
    (field_ref (codes "LMain;") (codes "o") (of_class (codes "Ljava/lang/Object;")) ∷ [])
    (object_init_ref ∷
    method_ref (codes "LT;") (codes "<init>") [] None ∷
    method_ref (codes "LT;") (codes "start") [] None ∷
    method_ref (codes "LT;") (codes "join") [] None ∷ [])
    (body_with 3
    (0x0022 ∷ 0x0000 ∷ 0x1070 ∷ 0x0000 ∷ 0x0000 ∷ 0x0069 ∷ 0x0000 ∷ 0x001d ∷ 0x0122 ∷ 0x0001 ∷ 0x1070 ∷
    0x0001 ∷ 0x0001 ∷ 0x106e ∷ 0x0002 ∷ 0x0001 ∷ 0x106e ∷ 0x0003 ∷ 0x0001 ∷ 0x000e ∷ [])
    [] [] (of_class (codes "Ljava/lang/Object;") ∷ of_class (codes "LT;") ∷ [])))) ∷ [])) ∷
    linked (Some 3) [] (0 ∷ []) (1 ∷ 2 ∷ 3 ∷ 4 ∷ 105 ∷ 9 ∷ 10 ∷ [])
    (class (codes "LT;") (Some (codes "Ljava/lang/Thread;")) [] 0 []
    (method (codes "<init>") [] None 0
    (Some (naming [] (method_ref (codes "Ljava/lang/Thread;") (codes "<init>") [] None ∷ [])
    (body 1 (0x1070 ∷ 0x0000 ∷ 0x0000 ∷ 0x000e ∷ []))))
    ∷ method (codes "run") [] None 0
    (Some (naming
    (field_ref (codes "LMain;") (codes "o") (of_class (codes "Ljava/lang/Object;")) ∷ [])
    (method_ref (codes "Ljava/lang/Object;") (codes "notify") [] None ∷ [])
    (body 2 (0x0062 ∷ 0x0000 ∷ 0x001d ∷ 0x106e ∷ 0x0000 ∷ 0x0000 ∷ 0x001e ∷ 0x000e ∷ [])))) ∷ [])) ∷ [])
    (info 33 0 (of_class (codes "Ljava/lang/Object;") ∷ of_class (codes "LT;") ∷ []) (5 ∷ []) (0 ∷ 104 ∷ 9 ∷ 2 ∷ 40 ∷ []) ∷
    info 33 1 (of_class (codes "Ljava/lang/Object;") ∷ []) [] (0 ∷ 2 ∷ []) ∷
    info 33 2 (of_class (codes "Ljava/lang/Object;") ∷ []) [] (0 ∷ 2 ∷ []) ∷
    info 33 3 (of_class (codes "LT;") ∷ of_class (codes "Ljava/lang/Object;") ∷ []) (5 ∷ []) (104 ∷ 0 ∷ 10 ∷ 9 ∷ 40 ∷ []) ∷
    info 33 4 [] [] (11 ∷ 10 ∷ []) ∷
    info 33 5 (of_class (codes "Ljava/lang/Object;") ∷ of_class (codes "LT;") ∷ []) (5 ∷ []) (0 ∷ 104 ∷ 9 ∷ 10 ∷ []) ∷
    info 34 0 [] [] (6 ∷ []) ∷
    info 34 1 [] (5 ∷ []) (3 ∷ []) ∷ [])
    (field_info 33 0 0 ∷ [])

--   .class public LBox;
--   .super Ljava/lang/Object;
--   .source "Main.java"
--   # instance fields
--   .field private full:Z
--   .field private value:I
--   # direct methods
--   .method public constructor <init>()V
--       .registers 1
--       .prologue
--       .line 1
--       invoke-direct {p0}, Ljava/lang/Object;-><init>()V
--       return-void
--   .end method
--   # virtual methods
--   .method public declared-synchronized put(I)V
--       .registers 4
--       .param p1, "x"    # I
--       .annotation system Ldalvik/annotation/Throws;
--           value = {
--               Ljava/lang/InterruptedException;
--           }
--       .end annotation
--       monitor-enter p0
--       :goto_0
--       :try_start_0
--       iget-boolean v0, p0, LBox;->full:Z
--       if-eqz v0, :cond_0
--       invoke-virtual {p0}, LBox;->wait()V
--       goto :goto_0
--       :cond_0
--       iput p1, p0, LBox;->value:I
--       const/4 v0, 0x1
--       iput-boolean v0, p0, LBox;->full:Z
--       invoke-virtual {p0}, LBox;->notifyAll()V
--       :try_end_0
--       .catchall {:try_start_0 .. :try_end_0} :catchall_0
--       monitor-exit p0
--       return-void
--       :catchall_0
--       move-exception v0
--       monitor-exit p0
--       throw v0
--   .end method
--   .method public declared-synchronized take()I
--       .registers 3
--       monitor-enter p0
--       :goto_0
--       :try_start_0
--       iget-boolean v0, p0, LBox;->full:Z
--       if-nez v0, :cond_0
--       invoke-virtual {p0}, LBox;->wait()V
--       goto :goto_0
--       :cond_0
--       const/4 v0, 0x0
--       iput-boolean v0, p0, LBox;->full:Z
--       invoke-virtual {p0}, LBox;->notifyAll()V
--       iget v0, p0, LBox;->value:I
--       :try_end_0
--       .catchall {:try_start_0 .. :try_end_0} :catchall_0
--       monitor-exit p0
--       return v0
--       :catchall_0
--       move-exception v0
--       monitor-exit p0
--       throw v0
--   .end method
--   .class LMaker;
--   .super Ljava/lang/Thread;
--   .field final box:LBox;
--   .method constructor <init>(LBox;)V
--       .registers 2
--       invoke-direct {p0}, Ljava/lang/Thread;-><init>()V
--       iput-object p1, p0, LMaker;->box:LBox;
--       return-void
--   .end method
--   .method public run()V
--       .registers 4
--       const/4 v0, 0x0
--       :goto_0
--       const/16 v1, 0xa
--       if-ge v0, v1, :cond_0
--       :try_start_0
--       iget-object v1, p0, LMaker;->box:LBox;
--       invoke-virtual {v1, v0}, LBox;->put(I)V
--       :try_end_0
--       .catch Ljava/lang/InterruptedException; {:try_start_0 .. :try_end_0} :catch_0
--       add-int/lit8 v0, v0, 0x1
--       goto :goto_0
--       :catch_0
--       move-exception v0
--       :cond_0
--       return-void
--   .end method
--   .class public LMain;
--   .super Ljava/lang/Object;
--   .method public static main([Ljava/lang/String;)V
--       .locals 6
--       new-instance v0, LBox;
--       invoke-direct {v0}, LBox;-><init>()V
--       new-instance v1, LMaker;
--       invoke-direct {v1, v0}, LMaker;-><init>(LBox;)V
--       invoke-virtual {v1}, LMaker;->start()V
--       const/4 v1, 0x0
--       :goto_0
--       const/16 v2, 0xa
--       if-ge v1, v2, :cond_0
--       sget-object v2, Ljava/lang/System;->out:Ljava/io/PrintStream;
--       new-instance v3, Ljava/lang/StringBuilder;
--       invoke-direct {v3}, Ljava/lang/StringBuilder;-><init>()V
--       const-string v4, "got "
--       invoke-virtual {v3, v4}, Ljava/lang/StringBuilder;->append(Ljava/lang/String;)Ljava/lang/StringBuilder;
--       move-result-object v3
--       invoke-virtual {v0}, LBox;->take()I
--       move-result v4
--       invoke-virtual {v3, v4}, Ljava/lang/StringBuilder;->append(I)Ljava/lang/StringBuilder;
--       move-result-object v3
--       invoke-virtual {v3}, Ljava/lang/StringBuilder;->toString()Ljava/lang/String;
--       move-result-object v3
--       invoke-virtual {v2, v3}, Ljava/io/PrintStream;->println(Ljava/lang/String;)V
--       add-int/lit8 v1, v1, 0x1
--       goto :goto_0
--       :cond_0
--       return-void
--   .end method
abbrev pub boxing : Image
boxing = with_boot
    (linked (Some 0) [] (5 ∷ 6 ∷ []) (1 ∷ 2 ∷ 3 ∷ 4 ∷ 99 ∷ 100 ∷ [])
    (class (codes "LBox;") (Some (codes "Ljava/lang/Object;")) [] 0
    (field (codes "full") of_boolean 2 ∷ field (codes "value") of_int 2 ∷ [])
    (method (codes "<init>") [] None 0 (Some (naming [] (object_init_ref ∷ [])
    (body 1 (0x1070 ∷ 0x0000 ∷ 0x0000 ∷ 0x000e ∷ []))))
    ∷ method (codes "put") (of_int ∷ []) None 0
    (Some (naming
    (field_ref (codes "LBox;") (codes "full") of_boolean ∷ field_ref (codes "LBox;") (codes "value") of_int ∷ [])
    (method_ref (codes "LBox;") (codes "wait") [] None ∷
    method_ref (codes "LBox;") (codes "notifyAll") [] None ∷ [])
    (body_with 4
    (0x021d ∷ 0x2055 ∷ 0x0000 ∷ 0x0038 ∷ 0x0006 ∷ 0x106e ∷ 0x0000 ∷ 0x0002 ∷ 0xf928 ∷ 0x2359 ∷ 0x0001 ∷
    0x1012 ∷ 0x205c ∷ 0x0000 ∷ 0x106e ∷ 0x0001 ∷ 0x0002 ∷ 0x021e ∷ 0x000e ∷ 0x000d ∷ 0x021e ∷ 0x0027 ∷ [])
    (entry_over 1 17 (catch_all 19 ∷ []) ∷ []) [] [])))
    ∷ method (codes "take") [] (Some of_int) 0
    (Some (naming
    (field_ref (codes "LBox;") (codes "full") of_boolean ∷ field_ref (codes "LBox;") (codes "value") of_int ∷ [])
    (method_ref (codes "LBox;") (codes "wait") [] None ∷
    method_ref (codes "LBox;") (codes "notifyAll") [] None ∷ [])
    (body_with 3
    (0x021d ∷ 0x2055 ∷ 0x0000 ∷ 0x0039 ∷ 0x0006 ∷ 0x106e ∷ 0x0000 ∷ 0x0002 ∷ 0xf928 ∷ 0x0012 ∷ 0x205c ∷
    0x0000 ∷ 0x106e ∷ 0x0001 ∷ 0x0002 ∷ 0x2052 ∷ 0x0001 ∷ 0x021e ∷ 0x000f ∷ 0x000d ∷ 0x021e ∷ 0x0027 ∷ [])
    (entry_over 1 17 (catch_all 19 ∷ []) ∷ []) [] []))) ∷ [])) ∷
    linked (Some 3) [] (0 ∷ 7 ∷ []) (1 ∷ 2 ∷ 3 ∷ 4 ∷ 102 ∷ 9 ∷ 10 ∷ [])
    (class (codes "LMaker;") (Some (codes "Ljava/lang/Thread;")) [] 0
    (field (codes "box") (of_class (codes "LBox;")) 0x10 ∷ [])
    (method (codes "<init>") (of_class (codes "LBox;") ∷ []) None 0
    (Some (naming
    (field_ref (codes "LMaker;") (codes "box") (of_class (codes "LBox;")) ∷ [])
    (method_ref (codes "Ljava/lang/Thread;") (codes "<init>") [] None ∷ [])
    (body 2 (0x1070 ∷ 0x0000 ∷ 0x0000 ∷ 0x015b ∷ 0x0000 ∷ 0x000e ∷ []))))
    ∷ method (codes "run") [] None 0
    (Some (naming
    (field_ref (codes "LMaker;") (codes "box") (of_class (codes "LBox;")) ∷ [])
    (method_ref (codes "LBox;") (codes "put") (of_int ∷ []) None ∷ [])
    (body_with 4
    (0x0012 ∷ 0x0113 ∷ 0x000a ∷ 0x1035 ∷ 0x000b ∷ 0x3154 ∷ 0x0000 ∷ 0x206e ∷ 0x0000 ∷ 0x0001 ∷ 0x00d8 ∷
    0x0100 ∷ 0xf528 ∷ 0x000d ∷ 0x000e ∷ [])
    (entry_over 5 10 (catch_type 0 13 ∷ []) ∷ [])
    [] (of_class (codes "Ljava/lang/InterruptedException;") ∷ [])))) ∷ [])) ∷
    linked (Some 0) [] [] (1 ∷ 2 ∷ 3 ∷ 4 ∷ [])
    (class (codes "LMain;") (Some (codes "Ljava/lang/Object;")) [] 0 []
    (method (codes "main") (array_of (of_class (codes "Ljava/lang/String;")) ∷ []) None 8
    (Some (naming
    (field_ref (codes "Ljava/lang/System;") (codes "out") (of_class (codes "Ljava/io/PrintStream;")) ∷ [])
    (method_ref (codes "LBox;") (codes "<init>") [] None ∷
    method_ref (codes "LMaker;") (codes "<init>") (of_class (codes "LBox;") ∷ []) None ∷
    method_ref (codes "LMaker;") (codes "start") [] None ∷
    method_ref (codes "Ljava/lang/StringBuilder;") (codes "<init>") [] None ∷
    method_ref (codes "Ljava/lang/StringBuilder;") (codes "append") (of_class (codes "Ljava/lang/String;") ∷ [])
    (Some (of_class (codes "Ljava/lang/StringBuilder;"))) ∷
    method_ref (codes "LBox;") (codes "take") [] (Some of_int) ∷
    method_ref (codes "Ljava/lang/StringBuilder;") (codes "append") (of_int ∷ [])
    (Some (of_class (codes "Ljava/lang/StringBuilder;"))) ∷
    method_ref (codes "Ljava/lang/StringBuilder;") (codes "toString") []
    (Some (of_class (codes "Ljava/lang/String;"))) ∷
    method_ref (codes "Ljava/io/PrintStream;") (codes "println") (of_class (codes "Ljava/lang/String;") ∷ []) None ∷ [])
    (body_with 7
    (0x0022 ∷ 0x0000 ∷ 0x1070 ∷ 0x0000 ∷ 0x0000 ∷ 0x0122 ∷ 0x0001 ∷ 0x2070 ∷ 0x0001 ∷ 0x0001 ∷ 0x106e ∷
    0x0002 ∷ 0x0001 ∷ 0x0112 ∷ 0x0213 ∷ 0x000a ∷ 0x2135 ∷ 0x0021 ∷ 0x0262 ∷ 0x0000 ∷ 0x0322 ∷ 0x0002 ∷
    0x1070 ∷ 0x0003 ∷ 0x0003 ∷ 0x041a ∷ 0x0000 ∷ 0x206e ∷ 0x0004 ∷ 0x0043 ∷ 0x030c ∷ 0x106e ∷ 0x0005 ∷
    0x0000 ∷ 0x040a ∷ 0x206e ∷ 0x0006 ∷ 0x0043 ∷ 0x030c ∷ 0x106e ∷ 0x0007 ∷ 0x0003 ∷ 0x030c ∷ 0x206e ∷
    0x0008 ∷ 0x0032 ∷ 0x01d8 ∷ 0x0101 ∷ 0xde28 ∷ 0x000e ∷ [])
    [] (codes "got " ∷ [])
    (of_class (codes "LBox;") ∷ of_class (codes "LMaker;") ∷ of_class (codes "Ljava/lang/StringBuilder;") ∷ [])))) ∷ [])) ∷ [])
    (info 33 0 [] [] (0 ∷ []) ∷
    info 33 1 [] (5 ∷ 6 ∷ []) (2 ∷ 4 ∷ []) ∷
    info 33 2 [] (5 ∷ 6 ∷ []) (2 ∷ 4 ∷ []) ∷
    info 34 0 [] (7 ∷ []) (6 ∷ []) ∷
    info 34 1 (of_class (codes "Ljava/lang/InterruptedException;") ∷ []) (7 ∷ []) (99 ∷ []) ∷
    info 35 0
    (of_class (codes "LBox;") ∷ of_class (codes "LMaker;") ∷ of_class (codes "Ljava/lang/StringBuilder;") ∷ [])
    (2 ∷ []) (98 ∷ 101 ∷ 9 ∷ 17 ∷ 19 ∷ 100 ∷ 20 ∷ 24 ∷ 32 ∷ []) ∷ [])
    (field_info 33 0 0 ∷ field_info 33 1 1 ∷ field_info 34 0 1 ∷ [])

--   .class LG0;
--   .super Ljava/lang/Object;
--   .method static s(I)I
--   .registers 2
--   const v0, 5
--   xor-int p0, p0, v0
--   mul-int/lit8 p0, p0, 31
--   const/16 v0, 0
--   add-int p0, p0, v0
--   return p0
--   .end method
--   .class LG1;
--   .super Ljava/lang/Object;
--   .method static s(I)I
--   .registers 2
--   const v0, 1000008
--   xor-int p0, p0, v0
--   mul-int/lit8 p0, p0, 31
--   const/16 v0, 1
--   add-int p0, p0, v0
--   return p0
--   .end method
--   .class LW;
--   .super Ljava/lang/Thread;
--   .field id:I
--   .method constructor <init>(I)V
--   .registers 2
--   invoke-direct {p0}, Ljava/lang/Thread;-><init>()V
--   iput p1, p0, LW;->id:I
--   return-void
--   .end method
--   .method public run()V
--   .registers 4
--   iget v0, p0, LW;->id:I
--   invoke-static {v0}, LG0;->s(I)I
--   move-result v0
--   invoke-static {v0}, LG1;->s(I)I
--   move-result v0
--   sget-object v1, LMain;->lock:Ljava/lang/Object;
--   monitor-enter v1
--   sget v2, LMain;->total:I
--   add-int v2, v2, v0
--   sput v2, LMain;->total:I
--   monitor-exit v1
--   return-void
--   .end method
--   .class LMain;
--   .super Ljava/lang/Object;
--   .field static total:I
--   .field static lock:Ljava/lang/Object;
--   .method static main()V
--   .registers 4
--   new-instance v0, Ljava/lang/Object;
--   invoke-direct {v0}, Ljava/lang/Object;-><init>()V
--   sput-object v0, LMain;->lock:Ljava/lang/Object;
--   const/16 v0, 2
--   new-array v1, v0, [LW;
--   const/4 v2, 0
--   :a
--   new-instance v3, LW;
--   invoke-direct {v3, v2}, LW;-><init>(I)V
--   aput-object v3, v1, v2
--   invoke-virtual {v3}, LW;->start()V
--   add-int/lit8 v2, v2, 1
--   if-lt v2, v0, :a
--   const/4 v2, 0
--   :b
--   aget-object v3, v1, v2
--   invoke-virtual {v3}, LW;->join()V
--   add-int/lit8 v2, v2, 1
--   if-lt v2, v0, :b
--   sget v0, LMain;->total:I
--   invoke-static {v0}, Ldvm/Console;->println(I)V
--   return-void
--   .end method
abbrev pub summing : Image
summing = with_boot
    (linked (Some 0) [] [] (1 ∷ 2 ∷ 3 ∷ 4 ∷ [])
    (class (codes "LG0;") (Some (codes "Ljava/lang/Object;")) [] 0 []
    (method (codes "s") (of_int ∷ []) (Some of_int) 8
    (Some (body 2
    (0x0014 ∷ 0x0005 ∷ 0x0000 ∷ 0x0197 ∷ 0x0001 ∷ 0x01da ∷ 0x1f01 ∷ 0x0013 ∷ 0x0000 ∷ 0x0190 ∷ 0x0001 ∷
    0x010f ∷ []))) ∷ [])) ∷
    linked (Some 0) [] [] (1 ∷ 2 ∷ 3 ∷ 4 ∷ [])
    (class (codes "LG1;") (Some (codes "Ljava/lang/Object;")) [] 0 []
    (method (codes "s") (of_int ∷ []) (Some of_int) 8
    (Some (body 2
    (0x0014 ∷ 0x4248 ∷ 0x000f ∷ 0x0197 ∷ 0x0001 ∷ 0x01da ∷ 0x1f01 ∷ 0x0013 ∷ 0x0001 ∷ 0x0190 ∷ 0x0001 ∷
    0x010f ∷ []))) ∷ [])) ∷
    linked (Some 3) [] (0 ∷ 5 ∷ []) (1 ∷ 2 ∷ 3 ∷ 4 ∷ 101 ∷ 9 ∷ 10 ∷ [])
    (class (codes "LW;") (Some (codes "Ljava/lang/Thread;")) [] 0
    (field (codes "id") of_int 0 ∷ [])
    (method (codes "<init>") (of_int ∷ []) None 0 (Some (naming
    (field_ref (codes "LW;") (codes "id") of_int ∷ [])
    (method_ref (codes "Ljava/lang/Thread;") (codes "<init>") [] None ∷ [])
    (body 2 (0x1070 ∷ 0x0000 ∷ 0x0000 ∷ 0x0159 ∷ 0x0000 ∷ 0x000e ∷ []))))
    ∷ method (codes "run") [] None 0
    (Some (naming
    (field_ref (codes "LW;") (codes "id") of_int ∷
    field_ref (codes "LMain;") (codes "lock") (of_class (codes "Ljava/lang/Object;")) ∷
    field_ref (codes "LMain;") (codes "total") of_int ∷ [])
    (method_ref (codes "LG0;") (codes "s") (of_int ∷ []) (Some of_int) ∷
    method_ref (codes "LG1;") (codes "s") (of_int ∷ []) (Some of_int) ∷ [])
    (body 4
    (0x3052 ∷ 0x0000 ∷ 0x1071 ∷ 0x0000 ∷ 0x0000 ∷ 0x000a ∷ 0x1071 ∷ 0x0001 ∷ 0x0000 ∷ 0x000a ∷ 0x0162 ∷
    0x0001 ∷ 0x011d ∷ 0x0260 ∷ 0x0002 ∷ 0x0290 ∷ 0x0002 ∷ 0x0267 ∷ 0x0002 ∷ 0x011e ∷ 0x000e ∷ [])))) ∷ [])) ∷
    linked (Some 0) [] [] (1 ∷ 2 ∷ 3 ∷ 4 ∷ [])
    (class (codes "LMain;") (Some (codes "Ljava/lang/Object;")) [] 0
    (field (codes "total") of_int 8 ∷ field (codes "lock") (of_class (codes "Ljava/lang/Object;")) 8 ∷ [])
    (method (codes "main") [] None 8
    (Some (naming
    (field_ref (codes "LMain;") (codes "lock") (of_class (codes "Ljava/lang/Object;")) ∷
    field_ref (codes "LMain;") (codes "total") of_int ∷ [])
    (object_init_ref ∷
    method_ref (codes "LW;") (codes "<init>") (of_int ∷ []) None ∷
    method_ref (codes "LW;") (codes "start") [] None ∷
    method_ref (codes "LW;") (codes "join") [] None ∷
    println_ref ∷ [])
    (body_with 4
    (0x0022 ∷ 0x0000 ∷ 0x1070 ∷ 0x0000 ∷ 0x0000 ∷ 0x0069 ∷ 0x0000 ∷ 0x0013 ∷ 0x0002 ∷ 0x0123 ∷ 0x0001 ∷
    0x0212 ∷ 0x0322 ∷ 0x0002 ∷ 0x2070 ∷ 0x0001 ∷ 0x0023 ∷ 0x034d ∷ 0x0201 ∷ 0x106e ∷ 0x0002 ∷ 0x0003 ∷
    0x02d8 ∷ 0x0102 ∷ 0x0234 ∷ 0xfff4 ∷ 0x0212 ∷ 0x0346 ∷ 0x0201 ∷ 0x106e ∷ 0x0003 ∷ 0x0003 ∷ 0x02d8 ∷
    0x0102 ∷ 0x0234 ∷ 0xfff9 ∷ 0x0060 ∷ 0x0001 ∷ 0x1071 ∷ 0x0004 ∷ 0x0000 ∷ 0x000e ∷ [])
    [] []
    (of_class (codes "Ljava/lang/Object;") ∷ array_of (of_class (codes "LW;")) ∷ of_class (codes "LW;") ∷ [])))) ∷ [])) ∷ [])
    (info 33 0 [] [] [] ∷
    info 34 0 [] [] [] ∷
    info 35 0 [] (5 ∷ []) (6 ∷ []) ∷
    info 35 1 [] (5 ∷ 7 ∷ 6 ∷ []) (98 ∷ 99 ∷ []) ∷
    info 36 0
    (of_class (codes "Ljava/lang/Object;") ∷ array_of (of_class (codes "LW;")) ∷ of_class (codes "LW;") ∷ [])
    (7 ∷ 6 ∷ []) (0 ∷ 100 ∷ 9 ∷ 10 ∷ 40 ∷ []) ∷ [])
    (field_info 35 0 1 ∷ field_info 36 0 0 ∷ field_info 36 1 0 ∷ [])

-- threads and monitors
pub record Threads : Type 0 where
  -- the program is accepted
  pub waiting_is_accepted : Accepts waiting_program
  -- wait gives up a monitor held twice and takes it back twice
  pub wait_keeps_the_count :
      outcome waiting_program 98 ≡ lines
      (codes "2" ∷ codes "#uncaught 0 java.lang.IllegalMonitorStateException" ∷ codes "#end done" ∷ [])
  -- wait without the monitor
  pub wait_without_the_monitor :
      outcome waiting_program 99 ≡ lines (codes "#uncaught 0 java.lang.IllegalMonitorStateException" ∷ codes "#end done" ∷ [])
  -- a wait that nobody notifies
  pub waits_forever : outcome waiting_program 100 ≡ lines (codes "#blocked 0 wait" ∷ codes "#end blocked" ∷ [])
  -- join of a thread that wasn't started, of one that runs, and a second start
  pub joins_an_ended_thread :
      outcome waiting_program 101 ≡ lines
      (codes "5" ∷ codes "#uncaught 0 java.lang.IllegalThreadStateException" ∷ codes "#end done" ∷ [])
  -- a thread that joins itself
  pub joins_itself : outcome waiting_program 102 ≡ lines (codes "#blocked 0 join 0" ∷ codes "#end blocked" ∷ [])
  -- a monitor that is never given up
  pub holds_what_the_other_enters :
      outcome waiting_program 103 ≡ lines (codes "#blocked 0 join 1" ∷ codes "#blocked 1 monitor" ∷ codes "#end blocked" ∷ [])
  -- a producer and a consumer
  pub producer_and_consumer :
      outcome boxing 103 ≡ lines
      (codes "got 0" ∷ codes "got 1" ∷ codes "got 2" ∷ codes "got 3" ∷ codes "got 4" ∷ codes "got 5" ∷
      codes "got 6" ∷ codes "got 7" ∷ codes "got 8" ∷ codes "got 9" ∷ codes "#end done" ∷ [])
  -- the program is accepted
  pub boxing_is_accepted : Accepts boxing
  -- two threads sum up under a lock
  pub threads_sum_up : outcome summing 102 ≡ lines (codes "62004187" ∷ codes "#end done" ∷ [])
  -- the program is accepted
  pub summing_is_accepted : Accepts summing
