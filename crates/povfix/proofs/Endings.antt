-- How each step ends a frame, and how the report of it ends it.
use Rattle.std.specs.Prelude.{IsSomeAnd, MatchOption, Result, option_copied, option_map, sum}
use Rattle.std.specs.Result.{IfErr, IsErrAnd}
use Rattle.std.proofs.Common.{◌≡◌, ◌≢◌, ◌⊎◌, ◌≤◌, ℕ, Bor, List, [], ◌++◌, inl, inr, refl, sym, ap, ◌∙◌, subst, ◌∷◌, Option, Some, None, Ok, Err}
use Rattle.std.proofs.lemmas.List.{append-nil, append_assoc}
use Rattle.scene_lexer.specs.declared.token.LexFault.{LexFault}
use Rattle.scene_lexer.specs.declared.token.Token.{Token}
use Rattle.scene_expr.specs.declared.value.ExprFault.{ExprFault}
use Rattle.scene_expr.specs.declared.value.Settings.{Settings}
use Rattle.shelf.specs.declared.disk.HoldFail.{HoldFail}
use Rattle.shelf.specs.Causes.{Rose}
use Rattle.shelf.specs.Disk.{Contents, Images, SameContents}
use Rattle.shelf.specs.Stream.{with_bytes, GrewByLess}
use Rattle.scene_model.specs.declared.scene.Scene.{Scene}
use Rattle.scene_model.specs.declared.scene.Sheet.{Sheet}
use Rattle.item_blocks.specs.declared.fault.ParseFault.{ParseFault}
use Rattle.scene_parser.specs.Seen.{SceneView, scene_seen}
use Rattle.frame_trace.specs.Pictures.{IsPicture}
use Rattle.directive_machine.specs.declared.texts.Text.{Text}
use Rattle.directive_machine.specs.declared.stop.Stop.{Stop}
use Rattle.directive_machine.specs.Course.{Halted}
use Rattle.directive_machine.specs.Expansions.{Handed, ComesTo, StopsAt}
use Rattle.options.specs.declared.plan.Plan.{Plan}
use Rattle.options.specs.Frames.{settings_of}
use Rattle.povfix.specs.declared.ending.Ending.{Ending}
use Rattle.povfix.specs.declared.ending.Report.{Report}
use Rattle.povfix.specs.declared.expansion.Expansion.{Expansion}
use Rattle.povfix.specs.declared.outcome.Fault.{Fault}
use Rattle.povfix.specs.declared.outcome.Fault.TheVariants.{Done, OptionFault, SceneFault, Limit, Absent, TextFault, ShelfFault, MessageFault, NoMemory}
use Rattle.povfix.specs.Conversions.{error_text, hold_fault, stop_fault}
use Rattle.povfix.specs.Frames.{Frame, filed, format_of, frame_of, generated_for, sight_of, IsExpanded, IsMeaning, IsStopped, Shows}
use Rattle.povfix.specs.Lines.{line_left, line_of, messages_left, name_under, text_number, IsPlaced, Says}
use Rattle.povfix.specs.Moments.{AllStay}
use Rattle.povfix.specs.Said.{Begins, IsFrameSaid}
use Rattle.povfix.specs.Scenes.{drawable, sheets_fault, without_sheets, IsRead}
use Rattle.povfix.specs.Steps.{IsCarried, IsCut, IsEnd, IsLeft, IsUnparsed}
use Rattle.povfix.specs.Verdict.{FrameVerdict, done}
use Rattle.povfix.proofs.Beginnings.{carried_begins, nothing_begins, verdict_begins}
use Rattle.povfix.proofs.OneFrame.{OneExpansion}
use Rattle.povfix.proofs.Saying.{rose_to, says_behind, says_nothing, says_same, with_nothing}

-- ---- what the directives come to, under other spellings of what they are given

module _ (plan : Plan) (number : ℕ) (set : Settings) (libraries : List (List ℕ)) (name : List ℕ) (bytes : Option (List ℕ)) (h : List Text) (is_set : set ≡ settings_of plan number) (is_libraries : libraries ≡ plan.libraries) (is_name : name ≡ plan.input) (is_bytes : bytes ≡ generated_for plan.generate) where
  pub expanded_at : (found : Handed) → ComesTo (record { settings = set; libraries = libraries; held = h }) name bytes found → IsExpanded (frame_of plan number) h found
  expanded_at found reached =
      subst (λ b. ComesTo (record { settings = settings_of plan number; libraries = plan.libraries; held = h }) plan.input b found) is_bytes
      (subst (λ n. ComesTo (record { settings = settings_of plan number; libraries = plan.libraries; held = h }) n bytes found) is_name
      (subst (λ l. ComesTo (record { settings = settings_of plan number; libraries = l; held = h }) name bytes found) is_libraries
      (subst (λ s. ComesTo (record { settings = s; libraries = libraries; held = h }) name bytes found) is_set reached)))

  pub stopped_at : (f : Halted) → StopsAt (record { settings = set; libraries = libraries; held = h }) name bytes f → IsStopped (frame_of plan number) h f
  stopped_at f stops =
      subst (λ b. StopsAt (record { settings = settings_of plan number; libraries = plan.libraries; held = h }) plan.input b f) is_bytes
      (subst (λ n. StopsAt (record { settings = settings_of plan number; libraries = plan.libraries; held = h }) n bytes f) is_name
      (subst (λ l. StopsAt (record { settings = settings_of plan number; libraries = l; held = h }) name bytes f) is_libraries
      (subst (λ s. StopsAt (record { settings = s; libraries = libraries; held = h }) name bytes f) is_set stops)))

pub given_text : {V : Type 0} (items : V → List ℕ) (text : Option V) (lent : Option (Bor (List ℕ))) (Q : V → Bor (List ℕ) → Type 0) → ((v : V) (y : Bor (List ℕ)) → Q v y → y.now ≡ items v) → MatchOption text (lent ≡ None) (λ v. IsSomeAnd lent (Q v)) → option_copied lent ≡ option_map items text
given_text items None lent Q shows is = ap option_copied is
given_text items (Some v) None Q shows is = absurd is
given_text items (Some v) (Some y) Q shows is = ap (λ b. Some b) (shows v y is)

-- what holds of a fault holds at the exit of a `?`
pub exit : {T E : Type 0} → (Q : E → Type 0) (y : E) (r : Result T E) → IsErrAnd r (λ x. x ≡ y) → Q y → IfErr r Q
exit Q y (Ok t) is q = absurd is
exit Q y (Err x) is q = subst Q (sym is) q

-- ---- before the report

-- a fault of words and texts alone
abbrev IsRefusal : Fault → Type 0
IsRefusal (SceneFault letter kind place) = Unit {0}
IsRefusal (Limit which place) = Unit {0}
IsRefusal (Absent name) = Unit {0}
IsRefusal fault = ⊥

module _ (frame : Frame) (told : Option (List Text)) (tb tn shelf kb kn : ℕ) (before now : Option (List ℕ)) where
  abbrev Cut : Ending → Type 0
  Cut ending = IsCut frame told tb tn shelf shelf kb kn before now ending

  -- what is written, and what is left to say, is what the frame comes to
  abbrev Told : Fault → Option Report → Type 0
  Told fault report = (texts : List Text) → told ≡ Some texts → (messages : List ℕ) × (now ≡ with_bytes before messages) × FrameVerdict frame texts (record { fault = fault; messages = messages ++ messages_left report; total = 0; line = line_left report fault })

  refused_cut : (fault : Fault) (report : Option Report) → IsRefusal fault → Told fault report → Cut (record { fault = fault; report = report })
  refused_cut (SceneFault letter kind place) report refusal left = record { ends = tt; left = left; text_fault = λ e. cc; shelf_fault = λ e. cc; message_fault = λ e. cc }
  refused_cut (Limit which place) report refusal left = record { ends = tt; left = left; text_fault = λ e. cc; shelf_fault = λ e. cc; message_fault = λ e. cc }
  refused_cut (Absent name) report refusal left = record { ends = tt; left = left; text_fault = λ e. cc; shelf_fault = λ e. cc; message_fault = λ e. cc }
  refused_cut Done report refusal left = absurd refusal
  refused_cut (OptionFault kind place) report refusal left = absurd refusal
  refused_cut TextFault report refusal left = absurd refusal
  refused_cut ShelfFault report refusal left = absurd refusal
  refused_cut MessageFault report refusal left = absurd refusal
  refused_cut NoMemory report refusal left = absurd refusal

  -- what is written, and what is left to say, stands first in what the frame says
  abbrev Begun : Option Report → Type 0
  Begun report = (texts : List Text) → told ≡ Some texts → (messages : List ℕ) × (now ≡ with_bytes before messages) × Begins frame texts (messages ++ messages_left report)

  pub no_memory_cut : (report : Option Report) → Begun report → Cut (record { fault = NoMemory; report = report })
  no_memory_cut report begun = record { ends = tt; left = begun; text_fault = λ e. cc; shelf_fault = λ e. cc; message_fault = λ e. cc }

  text_cut : (report : Option Report) → Begun report → Rose tb tn → Cut (record { fault = TextFault; report = report })
  text_cut report begun rose = record { ends = tt; left = begun; text_fault = λ e. rose; shelf_fault = λ e. cc; message_fault = λ e. cc }

  -- the messages of a frame whose directives are carried out can't be written
  unwritten : ((texts : List Text) → told ≡ Some texts → (found : Handed) × IsExpanded frame texts found × GrewByLess before now found.messages) → Rose kb kn → Cut (record { fault = MessageFault; report = None })
  unwritten part rose = record {
    ends = tt;
    left = λ texts held. let less = part texts held in (less.0, less.1, less.2, refl);
    text_fault = λ e. cc;
    shelf_fault = λ e. cc;
    message_fault = λ e. rose;
  }

  pub unwritten_cut : (ending : Ending) → ending ≡ record { fault = MessageFault; report = None } → ((texts : List Text) → told ≡ Some texts → (found : Handed) × IsExpanded frame texts found × GrewByLess before now found.messages) → Rose kb kn → Cut ending
  unwritten_cut ending is part rose = subst Cut (sym is) (unwritten part rose)

-- there is no memory before anything is said
pub silent_cut : (frame : Frame) (told : Option (List Text)) (tb tn shelf kb kn : ℕ) (before : Option (List ℕ)) → IsCut frame told tb tn shelf shelf kb kn before before (record { fault = NoMemory; report = None })
silent_cut frame told tb tn shelf kb kn before =
    no_memory_cut frame told tb tn shelf kb kn before before None (λ texts held. ([], with_nothing before, nothing_begins frame texts))

-- nothing is left to say
begins_all : (frame : Frame) (texts : List Text) (report : Option Report) (messages : List ℕ) → messages_left report ≡ [] → Begins frame texts messages → Begins frame texts (messages ++ messages_left report)
begins_all frame texts report messages none begun = subst (Begins frame texts) (sym (ap (λ more. messages ++ more) none ∙ append-nil messages)) begun

-- the directives of a frame are carried out, and then there is no memory
pub unfilled_cut : OneExpansion → (frame : Frame) (told : Option (List Text)) (tb tn shelf kb kn : ℕ) (before now : Option (List ℕ)) (found : Expansion) → ((texts : List Text) → told ≡ Some texts → IsCarried frame texts before now found) → (report : Option Report) → messages_left report ≡ [] → IsCut frame told tb tn shelf shelf kb kn before now (record { fault = NoMemory; report = report })
unfilled_cut law frame told tb tn shelf kb kn before now found carried report none =
    no_memory_cut frame told tb tn shelf kb kn before now report
    (λ texts held. let here = carried texts held in (here.messages, here.written, begins_all frame texts report here.messages none (carried_begins law frame texts _ here.expanded)))

-- the items of a frame are refused
with_sheets : (sheets : List Sheet) (scene : SceneView) (fault : Fault) → Err fault ≡ without_sheets sheets scene → IsRefusal fault
with_sheets [] scene fault is = absurd (cc is)
with_sheets (sheet ∷ sheets) scene fault is = let same : fault ≡ sheets_fault = cc is in subst IsRefusal (sym same) tt

undrawn : (parsed : Result SceneView ParseFault) (fault : Fault) → Err fault ≡ drawable parsed → fault ≢ NoMemory → IsRefusal fault
undrawn (Ok scene) fault is other = with_sheets scene.sheets scene fault is
undrawn (Err (ParseFault.Expected place kind)) fault is other = let same : fault ≡ SceneFault 80 1 place = cc is in subst IsRefusal (sym same) tt
undrawn (Err (ParseFault.OutOfProfile place word)) fault is other = let same : fault ≡ SceneFault 80 2 place = cc is in subst IsRefusal (sym same) tt
undrawn (Err (ParseFault.ValueRange place)) fault is other = let same : fault ≡ SceneFault 80 3 place = cc is in subst IsRefusal (sym same) tt
undrawn (Err (ParseFault.Xform place step)) fault is other = let same : fault ≡ SceneFault 80 4 place = cc is in subst IsRefusal (sym same) tt
undrawn (Err (ParseFault.Limit which place)) fault is other = let same : fault ≡ Limit which place = cc is in subst IsRefusal (sym same) tt
undrawn (Err ParseFault.NoMemory) fault is other = absurd (other (cc is))

module _ (law : OneExpansion) (frame : Frame) (told : Option (List Text)) (tb tn shelf kb kn : ℕ) (before now : Option (List ℕ)) (found : Expansion) (carried : (texts : List Text) → told ≡ Some texts → IsCarried frame texts before now found) (report : Option Report) (none : messages_left report ≡ []) where
  abbrev IsLine : Fault → Type 0
  IsLine fault = line_left report fault ≡ line_of (name_under found.names.items (text_number fault)) [] fault

  abbrev Reads : Fault → Type 0
  Reads fault = IsRead found.flat.tokens.items frame.settings (Err fault)

  told_by : (fault : Fault) → Reads fault → IsLine fault → Told frame told tb tn shelf kb kn before now fault report
  told_by fault read line texts held =
      let here = carried texts held in
      let comes = FrameVerdict.no_scene _ fault here.expanded read in
      let messages : here.messages ≡ here.messages ++ messages_left report = sym (ap (λ more. here.messages ++ more) none ∙ append-nil here.messages) in (
        here.messages,
        here.written,
        subst (λ m. FrameVerdict frame texts (record { fault = fault; messages = m; total = 0; line = line_left report fault })) messages
            (subst (λ l. FrameVerdict frame texts (record { fault = fault; messages = here.messages; total = 0; line = l })) (sym line) comes),
      )

  read_cut : (fault : Fault) → IsRefusal fault → Reads fault → IsLine fault → IsCut frame told tb tn shelf shelf kb kn before now (record { fault = fault; report = report })
  read_cut fault refusal read line = refused_cut frame told tb tn shelf kb kn before now fault report refusal (told_by fault read line)

  never : (fault : Fault) → fault ≢ NoMemory → Reads fault → IsRefusal fault
  never fault other read = undrawn read.parsed fault read.drawn other

  cut_of : (fault : Fault) → (fault ≢ NoMemory → Reads fault) → IsLine fault → IsCut frame told tb tn shelf shelf kb kn before now (record { fault = fault; report = report })
  cut_of (SceneFault letter kind place) read line = read_cut (SceneFault letter kind place) tt (read (λ e. cc)) line
  cut_of (Limit which place) read line = read_cut (Limit which place) tt (read (λ e. cc)) line
  cut_of (Absent name) read line = read_cut (Absent name) tt (read (λ e. cc)) line
  cut_of Done read line = absurd (never Done (λ e. cc) (read (λ e. cc)))
  cut_of (OptionFault kind place) read line = absurd (never (OptionFault kind place) (λ e. cc) (read (λ e. cc)))
  cut_of TextFault read line = absurd (never TextFault (λ e. cc) (read (λ e. cc)))
  cut_of ShelfFault read line = absurd (never ShelfFault (λ e. cc) (read (λ e. cc)))
  cut_of MessageFault read line = absurd (never MessageFault (λ e. cc) (read (λ e. cc)))
  cut_of NoMemory read line = unfilled_cut law frame told tb tn shelf kb kn before now found carried report none

-- what is left to say of such a fault is its line
pub unread : (set set' : Settings) (tokens : List Token) (found : Expansion) (fault : Fault) (ending : Ending) (report : Report) → tokens ≡ found.flat.tokens.items → set' ≡ set → ending ≡ record { fault = fault; report = Some report } → report.messages.items ≡ [] → report.name ≡ name_under found.names.items (text_number fault) → report.text ≡ [] → (fault ≢ NoMemory → IsRead tokens set' (Err fault)) → IsUnparsed set found ending
unread set set' tokens found fault ending report is_tokens is_set is none name text read = subst (IsUnparsed set found) (sym is) (record {
  read = λ other. subst (λ t. IsRead t set (Err fault)) is_tokens (subst (λ s. IsRead tokens s (Err fault)) is_set (read other));
  messages = none;
  line = ap (λ n. line_of n report.text fault) name ∙ ap (λ t. line_of (name_under found.names.items (text_number fault)) t fault) text;
})

pub unparsed_cut : OneExpansion → (frame : Frame) (told : Option (List Text)) (tb tn shelf kb kn : ℕ) (before now : Option (List ℕ)) (found : Expansion) (ending : Ending) → ((texts : List Text) → told ≡ Some texts → IsCarried frame texts before now found) → IsUnparsed frame.settings found ending → IsCut frame told tb tn shelf shelf kb kn before now ending
unparsed_cut law frame told tb tn shelf kb kn before now found ending carried un = cut_of law frame told tb tn shelf kb kn before now found carried ending.report un.messages ending.fault un.read un.line

-- the directives of a frame stop; nothing is written yet
module _ (frame : Frame) (told : Option (List Text)) (tb tn shelf kb kn : ℕ) (before : Option (List ℕ)) (names : List (List ℕ)) (one : Report) (begun : (texts : List Text) → told ≡ Some texts → Begins frame texts one.messages.items) where
  abbrev left_of : Stop → Option Report
  left_of stop = Some (record { messages = one.messages; name = name_under names (text_number (stop_fault stop)); text = error_text stop })

  told_of : (stop : Stop) → ((texts : List Text) → told ≡ Some texts → IsStopped frame texts (record { stop = stop; messages = one.messages.items; names = names })) → Told frame told tb tn shelf kb kn before before (stop_fault stop) (left_of stop)
  told_of stop stops texts held = ([], with_nothing before, FrameVerdict.stopped _ (stops texts held))

  -- nothing is written, and the messages are left
  begun_of : (stop : Stop) → Begun frame told tb tn shelf kb kn before before (left_of stop)
  begun_of stop texts held = ([], with_nothing before, begun texts held)

  stop_cut : (stop : Stop) → (stop ≢ Stop.NoMemory → stop ≢ Stop.TextFault → (texts : List Text) → told ≡ Some texts → IsStopped frame texts (record { stop = stop; messages = one.messages.items; names = names })) → (stop ≡ Stop.TextFault → Rose tb tn) → IsCut frame told tb tn shelf shelf kb kn before before (record { fault = stop_fault stop; report = left_of stop })
  stop_cut (Stop.Lex (LexFault.BadByte place)) why rose = refused_cut frame told tb tn shelf kb kn before before _ _ tt (told_of (Stop.Lex (LexFault.BadByte place)) (why (λ e. cc) (λ e. cc)))
  stop_cut (Stop.Lex (LexFault.OpenComment place)) why rose = refused_cut frame told tb tn shelf kb kn before before _ _ tt (told_of (Stop.Lex (LexFault.OpenComment place)) (why (λ e. cc) (λ e. cc)))
  stop_cut (Stop.Lex (LexFault.OpenString place)) why rose = refused_cut frame told tb tn shelf kb kn before before _ _ tt (told_of (Stop.Lex (LexFault.OpenString place)) (why (λ e. cc) (λ e. cc)))
  stop_cut (Stop.Lex (LexFault.LongName place)) why rose = refused_cut frame told tb tn shelf kb kn before before _ _ tt (told_of (Stop.Lex (LexFault.LongName place)) (why (λ e. cc) (λ e. cc)))
  stop_cut (Stop.Lex (LexFault.NumberRange place)) why rose = refused_cut frame told tb tn shelf kb kn before before _ _ tt (told_of (Stop.Lex (LexFault.NumberRange place)) (why (λ e. cc) (λ e. cc)))
  stop_cut (Stop.Lex LexFault.NoMemory) why rose = no_memory_cut frame told tb tn shelf kb kn before before _ (begun_of (Stop.Lex LexFault.NoMemory))
  stop_cut (Stop.Expr (ExprFault.Expected place)) why rose = refused_cut frame told tb tn shelf kb kn before before _ _ tt (told_of (Stop.Expr (ExprFault.Expected place)) (why (λ e. cc) (λ e. cc)))
  stop_cut (Stop.Expr (ExprFault.UnknownName place)) why rose = refused_cut frame told tb tn shelf kb kn before before _ _ tt (told_of (Stop.Expr (ExprFault.UnknownName place)) (why (λ e. cc) (λ e. cc)))
  stop_cut (Stop.Expr (ExprFault.Kind place)) why rose = refused_cut frame told tb tn shelf kb kn before before _ _ tt (told_of (Stop.Expr (ExprFault.Kind place)) (why (λ e. cc) (λ e. cc)))
  stop_cut (Stop.Expr (ExprFault.ZeroDivisor place)) why rose = refused_cut frame told tb tn shelf kb kn before before _ _ tt (told_of (Stop.Expr (ExprFault.ZeroDivisor place)) (why (λ e. cc) (λ e. cc)))
  stop_cut (Stop.Expr (ExprFault.Range place)) why rose = refused_cut frame told tb tn shelf kb kn before before _ _ tt (told_of (Stop.Expr (ExprFault.Range place)) (why (λ e. cc) (λ e. cc)))
  stop_cut (Stop.Expr ExprFault.NoMemory) why rose = no_memory_cut frame told tb tn shelf kb kn before before _ (begun_of (Stop.Expr ExprFault.NoMemory))
  stop_cut (Stop.Directive kind place) why rose = refused_cut frame told tb tn shelf kb kn before before _ _ tt (told_of (Stop.Directive kind place) (why (λ e. cc) (λ e. cc)))
  stop_cut (Stop.Absent name place) why rose = refused_cut frame told tb tn shelf kb kn before before _ _ tt (told_of (Stop.Absent name place) (why (λ e. cc) (λ e. cc)))
  stop_cut Stop.TextFault why rose = text_cut frame told tb tn shelf kb kn before before _ (begun_of Stop.TextFault) (rose refl)
  stop_cut (Stop.UserError text place) why rose = refused_cut frame told tb tn shelf kb kn before before _ _ tt (told_of (Stop.UserError text place) (why (λ e. cc) (λ e. cc)))
  stop_cut (Stop.Limit which place) why rose = refused_cut frame told tb tn shelf kb kn before before _ _ tt (told_of (Stop.Limit which place) (why (λ e. cc) (λ e. cc)))
  stop_cut Stop.NoMemory why rose = no_memory_cut frame told tb tn shelf kb kn before before _ (begun_of Stop.NoMemory)

  pub stopped_cut : (stop : Stop) (fault : Fault) (text : List ℕ) (ending : Ending) → fault ≡ stop_fault stop → text ≡ error_text stop → ending ≡ record { fault = fault; report = Some (record { messages = one.messages; name = name_under names (text_number fault); text = text }) } → (stop ≢ Stop.NoMemory → stop ≢ Stop.TextFault → (texts : List Text) → told ≡ Some texts → IsStopped frame texts (record { stop = stop; messages = one.messages.items; names = names })) → (stop ≡ Stop.TextFault → Rose tb tn) → IsCut frame told tb tn shelf shelf kb kn before before ending
  stopped_cut stop fault text ending is_fault is_text is why rose =
      let now_fault : ending ≡ record { fault = stop_fault stop; report = Some (record { messages = one.messages; name = name_under names (text_number (stop_fault stop)); text = text }) } = is ∙ ap (λ f. record { fault = f; report = Some (record { messages = one.messages; name = name_under names (text_number f); text = text }) }) is_fault in
      let now_text : ending ≡ record { fault = stop_fault stop; report = left_of stop } = now_fault ∙ ap (λ t. record { fault = stop_fault stop; report = Some (record { messages = one.messages; name = name_under names (text_number (stop_fault stop)); text = t }) }) is_text in
      subst (IsCut frame told tb tn shelf shelf kb kn before before) (sym now_text) (stop_cut stop why rose)

-- ---- a frame that is drawn

module _ (frame : Frame) (texts : List Text) (before now : Option (List ℕ)) (found : Expansion) (scene : Scene) (picture : List ℕ) (carried : IsCarried frame texts before now found) (read : IsRead found.flat.tokens.items frame.settings (Ok (scene_seen scene))) (shown : IsPicture (sight_of scene (format_of frame.width frame.height frame.bits frame.antialias)) picture) where
  shows : Shows frame (scene_seen scene) picture
  shows = record { scene = scene; same = refl; shown = shown }

  pub drawn_said : (total : ℕ) → total ≡ sum picture → (messages : List ℕ) × FrameVerdict frame texts (done messages total) × (now ≡ with_bytes before messages)
  drawn_said total is = (carried.messages, subst (λ t. FrameVerdict frame texts (done carried.messages t)) (sym is) (FrameVerdict.drawn _ (scene_seen scene) picture carried.expanded read shows), carried.written)

  pub drawn_meaning : (file : List ℕ) → file ≡ filed frame picture → IsMeaning frame texts file
  drawn_meaning file is = record {
    scene = scene_seen scene;
    meant = record { found = _; expanded = carried.expanded; read = read };
    picture = picture;
    shown = shows;
    is = is;
  }

  pub drawn_verdict : (messages : List ℕ) × (total : ℕ) × FrameVerdict frame texts (done messages total) × (now ≡ with_bytes before messages)
  drawn_verdict = let said = drawn_said (sum picture) refl in (said.0, sum picture, said.1, said.2)

-- a storage that fails, or has no memory for the file
pub stored_cut : OneExpansion → (frame : Frame) (told : Option (List Text)) (tb tn sb sn kb kn : ℕ) (before now : Option (List ℕ)) (fail : HoldFail) → ((texts : List Text) → told ≡ Some texts → (messages : List ℕ) × (total : ℕ) × FrameVerdict frame texts (done messages total) × (now ≡ with_bytes before messages)) → (fail ≡ HoldFail.Failed → Rose sb sn) → IsCut frame told tb tn sb sn kb kn before now (record { fault = hold_fault fail; report = None })
stored_cut law frame told tb tn sb sn kb kn before now HoldFail.Failed verdict rose = record {
  ends = tt;
  left = λ texts held. let drawn = verdict texts held in (drawn.0, drawn.1, drawn.2, drawn.3, refl);
  text_fault = λ e. cc;
  shelf_fault = λ e. rose refl;
  message_fault = λ e. cc;
}
stored_cut law frame told tb tn sb sn kb kn before now HoldFail.NoMemory verdict rose = record {
  ends = tt;
  left = λ texts held. let drawn = verdict texts held in (drawn.0, drawn.3, begins_all frame texts None drawn.0 refl (verdict_begins law frame texts _ drawn.2));
  text_fault = λ e. cc;
  shelf_fault = λ e. cc;
  message_fault = λ e. cc;
}

pub stored_kept : (Kept : Type 0) (fail : HoldFail) → (fail ≡ HoldFail.NoMemory → Kept) → hold_fault fail ≢ ShelfFault → Kept
stored_kept Kept HoldFail.Failed kept other = absurd (other refl)
stored_kept Kept HoldFail.NoMemory kept other = kept refl

-- the file's bytes are what is stored
pub stored_meaning : (frame : Frame) (texts : List Text) (holds : Contents) (name name' file file' : List ℕ) → name' ≡ name → file' ≡ file → ((c : List ℕ) → holds name' c → c ≡ file') → IsMeaning frame texts file → (c : List ℕ) → holds name c → IsMeaning frame texts c
stored_meaning frame texts holds name name' file file' is_name is_file stored meaning c held =
    subst (IsMeaning frame texts) (sym (stored c (subst (λ n. holds n c) (sym is_name) held) ∙ is_file)) meaning

-- ---- behind the report

line_without : (report : Option Report) → line_left report MessageFault ≡ []
line_without None = refl
line_without (Some report) = refl

no_memory_left : (report : Option Report) → line_left report NoMemory ≡ line_of [] [] NoMemory
no_memory_left None = refl
no_memory_left (Some report) = refl

text_left : (report : Option Report) → line_left report TextFault ≡ line_of [] [] TextFault
text_left None = refl
text_left (Some report) = refl

shelf_left : (report : Option Report) → line_left report ShelfFault ≡ line_of [] [] ShelfFault
shelf_left None = refl
shelf_left (Some report) = refl

module _ (law : OneExpansion) (frame : Frame) (texts : List Text) (before mid now : Option (List ℕ)) (kb km kn : ℕ) (later : kb ≤ km) where
  -- what was written, what was left, and the line
  whole : (messages : List ℕ) (report : Option Report) (line : List ℕ) → mid ≡ with_bytes before messages → Says mid now km kn (messages_left report ++ line) → Says before now kb kn ((messages ++ messages_left report) ++ line)
  whole messages report line is says =
      says_same before now kb kn (messages ++ (messages_left report ++ line)) ((messages ++ messages_left report) ++ line) (sym (append_assoc messages (messages_left report) line))
      (says_behind before mid now kb km kn messages (messages_left report ++ line) is later says)

  said_of : (fault : Fault) (report : Option Report) → IsLeft frame texts before mid (record { fault = fault; report = report }) fault → Says mid now km kn (messages_left report ++ line_left report fault) → IsFrameSaid frame texts fault before now kb kn
  said_of Done report left says = absurd left
  said_of (OptionFault kind place) report left says = absurd left
  said_of (SceneFault letter kind place) report left says = (_, left.2, refl, whole left.0 report (line_left report (SceneFault letter kind place)) left.1 says)
  said_of (Limit which place) report left says = (_, left.2, refl, whole left.0 report (line_left report (Limit which place)) left.1 says)
  said_of (Absent name) report left says = (_, left.2, refl, whole left.0 report (line_left report (Absent name)) left.1 says)
  said_of TextFault report left says = (left.0 ++ messages_left report, left.2, subst (λ l. Says before now kb kn ((left.0 ++ messages_left report) ++ l)) (text_left report) (whole left.0 report (line_left report TextFault) left.1 says))
  said_of NoMemory report left says = (left.0 ++ messages_left report, left.2, subst (λ l. Says before now kb kn ((left.0 ++ messages_left report) ++ l)) (no_memory_left report) (whole left.0 report (line_left report NoMemory) left.1 says))
  said_of ShelfFault report left says = (
    left.0,
    left.1,
    left.2,
    subst (λ l. Says before now kb kn (left.0 ++ l)) (shelf_left report)
        (says_behind before mid now kb km kn left.0 (line_left report ShelfFault) left.3 later (subst (λ m. Says mid now km kn (m ++ line_left report ShelfFault)) left.4 says)),
  )
  said_of MessageFault report left says =
      let still : now ≡ mid = says_nothing mid now km kn (messages_left report ++ line_left report MessageFault) (ap (λ m. m ++ line_left report MessageFault) left.3 ∙ line_without report) says in
      (left.0, left.1, subst (λ w. GrewByLess before w left.0.messages) (sym still) left.2)

  -- there is no memory for the line
  unsaid_of : (fault : Fault) (report : Option Report) → IsPlaced fault → IsLeft frame texts before mid (record { fault = fault; report = report }) fault → Says mid now km kn (messages_left report ++ line_left report NoMemory) → IsFrameSaid frame texts NoMemory before now kb kn
  unsaid_of (SceneFault letter kind place) report placed left says = said_of NoMemory report (left.0, left.1, verdict_begins law frame texts _ left.2) says
  unsaid_of (Limit which place) report placed left says = said_of NoMemory report (left.0, left.1, verdict_begins law frame texts _ left.2) says
  unsaid_of (Absent name) report placed left says = said_of NoMemory report (left.0, left.1, verdict_begins law frame texts _ left.2) says
  unsaid_of (OptionFault kind place) report placed left says = absurd left
  unsaid_of Done report placed left says = absurd placed
  unsaid_of TextFault report placed left says = absurd placed
  unsaid_of ShelfFault report placed left says = absurd placed
  unsaid_of MessageFault report placed left says = absurd placed
  unsaid_of NoMemory report placed left says = absurd placed

placed_other : (fault : Fault) → IsPlaced fault → fault ≢ ShelfFault
placed_other (SceneFault letter kind place) placed = λ e. cc
placed_other (Limit which place) placed = λ e. cc
placed_other (Absent name) placed = λ e. cc
placed_other (OptionFault kind place) placed = λ e. cc
placed_other Done placed = absurd placed
placed_other TextFault placed = absurd placed
placed_other ShelfFault placed = absurd placed
placed_other MessageFault placed = absurd placed
placed_other NoMemory placed = absurd placed

module _ (law : OneExpansion) (frame : Frame) (told : Option (List Text)) (tb tn sb sn kb km kn : ℕ) (old new : Contents) (m m' : ℕ) (images images' : Images) (before mid now : Option (List ℕ)) (later : kb ≤ km) (last : km ≤ kn) (fault : Fault) (report : Option Report) (cut : IsCut frame told tb tn sb sn kb km before mid (record { fault = fault; report = report })) (kept : fault ≢ ShelfFault → SameContents old new) (crash_kept : fault ≢ ShelfFault → AllStay m m' images images') where
  abbrev End : Fault → Type 0
  End = IsEnd frame told tb tn sb sn kb kn old new m m' images images' before now

  as_told : Says mid now km kn (messages_left report ++ line_left report fault) → End fault
  as_told says = record {
    ending = cut.ends;
    said = λ texts held. said_of law frame texts before mid now kb km kn later fault report (cut.left texts held) says;
    text_fault = cut.text_fault;
    shelf_fault = cut.shelf_fault;
    message_fault = λ e. rose_to kb km kn (cut.message_fault e) last;
    kept = kept;
    crash_kept = crash_kept;
  }

  without_line : IsPlaced fault → Says mid now km kn (messages_left report ++ line_left report NoMemory) → End NoMemory
  without_line placed says = record {
    ending = tt;
    said = λ texts held. unsaid_of law frame texts before mid now kb km kn later fault report placed (cut.left texts held) says;
    text_fault = λ e. cc;
    shelf_fault = λ e. cc;
    message_fault = λ e. cc;
    kept = λ e. kept (placed_other fault placed);
    crash_kept = λ e. crash_kept (placed_other fault placed);
  }

  pub reported_end : (reported : Fault) → (reported ≡ fault) ⊎ ((reported ≡ NoMemory) × IsPlaced fault) → Says mid now km kn (messages_left report ++ line_left report reported) → End reported
  reported_end reported (inl is) says = subst End (sym is) (as_told (subst (λ f. Says mid now km kn (messages_left report ++ line_left report f)) is says))
  reported_end reported (inr none) says = subst End (sym none.0) (without_line none.1 (subst (λ f. Says mid now km kn (messages_left report ++ line_left report f)) none.0 says))
