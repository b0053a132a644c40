-- A line is read as one thing.
use Rattle.std.proofs.Common.{◌≡◌, ◌∙◌, ℕ, List, Result, Ok, Err, Some, sym, ap, subst, decimal, arith}
use Rattle.std.proofs.lemmas.Fmt.{decimal_injective}
use Rattle.heat_value.specs.Meaning.{data_of}
use Rattle.heat_value.specs.Reading.{IsReadAs}
use Rattle.heat_value.specs.declared.value.Value.{Value}
use Rattle.heat_plan.specs.Names.{IsStackName}
use Rattle.heat_plan.specs.Numbers.{IsNumber}
use Rattle.script_lines.specs.Behind.{IsLone, IsCount}
use Rattle.script_lines.specs.Requested.{BodyData, IsNoValue, IsBodyText, IsNoBody}
use Rattle.script_lines.specs.Heads.{head_of}
use Rattle.script_lines.specs.Readings as read
use Rattle.script_lines.specs.Readings.{body_line, stack_line, engine_line, ReadsBody, ReadsStack, ReadsEngine, ReadsAlone, ReadsTypes, ReadsRun, ReadsBehind, ReadsWords, Reads}
use Rattle.script_lines.specs.declared.head.Head.{Head}
use Rattle.script_lines.specs.declared.head.Head.TheVariants as head
use Rattle.script_lines.specs.declared.head.BodyVerb.{BodyVerb}
use Rattle.script_lines.specs.declared.head.StackVerb.{StackVerb}
use Rattle.script_lines.specs.declared.head.EngineVerb.{EngineVerb}
use Rattle.script_lines.specs.declared.head.LoneVerb.{LoneVerb}
use Rattle.script_lines.specs.declared.line.Line.{Line}
use Rattle.script_lines.specs.declared.line.Line.TheVariants as line
use Rattle.script_lines.specs.declared.misread.Misread.{Misread}
use Rattle.script_lines.proofs.WordLemmas.{no_word, word_unique}
use Rattle.script_lines.proofs.Alone.{lone_unique, lone_begins, behind_one, parted_unique}
use Rattle.script_lines.proofs.OneBody.{no_value_unique, no_value_or_value, read_unique, body_unique, no_body_unique, no_body_or_body}

abbrev Answer : Type 0
Answer = Result Line Misread

-- ---- a stack's name alone

named_alike : (rest s t : List ℕ) → IsLone rest s → IsLone rest t → IsStackName t → IsStackName s
named_alike rest s t a b named = subst IsStackName (lone_unique rest t s b a) named

stack_one : (verb : StackVerb) (rest : List ℕ) (a b : Answer) → ReadsStack verb rest a → ReadsStack verb rest b → a ≡ b
stack_one verb rest a b (read.stack_not_one h is) (read.stack_not_one i also) = is ∙ sym also
stack_one verb rest a b (read.stack_not_one h is) (read.stack_unnamed t l n also) = absurd (h t l)
stack_one verb rest a b (read.stack_not_one h is) (read.stack_asked t l n also) = absurd (h t l)
stack_one verb rest a b (read.stack_unnamed s l n is) (read.stack_not_one h also) = absurd (h s l)
stack_one verb rest a b (read.stack_unnamed s l n is) (read.stack_unnamed t m o also) = is ∙ sym also
stack_one verb rest a b (read.stack_unnamed s l n is) (read.stack_asked t m o also) = absurd (n (named_alike rest s t l m o))
stack_one verb rest a b (read.stack_asked s l n is) (read.stack_not_one h also) = absurd (h s l)
stack_one verb rest a b (read.stack_asked s l n is) (read.stack_unnamed t m o also) = absurd (o (named_alike rest t s m l n))
stack_one verb rest a b (read.stack_asked s l n is) (read.stack_asked t m o also) =
    is ∙ ap (λ (x : List ℕ). Ok (stack_line verb x)) (lone_unique rest s t l m) ∙ sym also

-- ---- an engine's number alone

number_one : (n m : ℕ) (w v : List ℕ) → IsNumber n → IsNumber m → decimal n ≡ w → decimal m ≡ v → w ≡ v → n ≡ m
number_one n m w v i j is also same = decimal_injective n m (omega (arith, i.1)) (omega (arith, j.1)) (is ∙ same ∙ sym also)

engine_one : (verb : EngineVerb) (rest : List ℕ) (a b : Answer) → ReadsEngine verb rest a → ReadsEngine verb rest b → a ≡ b
engine_one verb rest a b (read.engine_not_one h is) (read.engine_not_one i also) = is ∙ sym also
engine_one verb rest a b (read.engine_not_one h is) (read.engine_no_number t l n also) = absurd (h t l)
engine_one verb rest a b (read.engine_not_one h is) (read.engine_asked t l m i w also) = absurd (h t l)
engine_one verb rest a b (read.engine_no_number s l n is) (read.engine_not_one h also) = absurd (h s l)
engine_one verb rest a b (read.engine_no_number s l n is) (read.engine_no_number t k m also) = is ∙ sym also
engine_one verb rest a b (read.engine_no_number s l n is) (read.engine_asked t k m i w also) = absurd (n m i (w ∙ lone_unique rest t s k l))
engine_one verb rest a b (read.engine_asked s l n i w is) (read.engine_not_one h also) = absurd (h s l)
engine_one verb rest a b (read.engine_asked s l n i w is) (read.engine_no_number t k m also) = absurd (m n i (w ∙ lone_unique rest s t l k))
engine_one verb rest a b (read.engine_asked s l n i w is) (read.engine_asked t k m j v also) =
    is ∙ ap (λ (x : ℕ). Ok (engine_line verb x)) (number_one n m s t i j w v (lone_unique rest s t l k)) ∙ sym also

-- ---- nothing more

alone_one : (verb : LoneVerb) (rest : List ℕ) (a b : Answer) → ReadsAlone verb rest a → ReadsAlone verb rest b → a ≡ b
alone_one verb rest a b (read.alone_more h is) (read.alone_more i also) = is ∙ sym also
alone_one verb rest a b (read.alone_more h is) (read.alone_asked s also) = absurd (h s)
alone_one verb rest a b (read.alone_asked s is) (read.alone_more h also) = absurd (h s)
alone_one verb rest a b (read.alone_asked s is) (read.alone_asked t also) = is ∙ sym also

-- ---- a catalogue

types_one : (rest : List ℕ) (a b : Answer) → ReadsTypes rest a → ReadsTypes rest b → a ≡ b
types_one rest a b (read.types_short h is) (read.types_short i also) = is ∙ sym also
types_one rest a b (read.types_short h is) (read.types_wrong t x w n also) = absurd (h t x)
types_one rest a b (read.types_short h is) (read.types_asked t x v r also) = absurd (h t x)
types_one rest a b (read.types_wrong s x w n is) (read.types_short h also) = absurd (h s x)
types_one rest a b (read.types_wrong s x w n is) (read.types_wrong t y u m also) =
    let here : IsNoValue s u = subst (λ (z : List ℕ). IsNoValue z u) (behind_one rest t s y x) m in
    is ∙ ap (λ (e : Misread). Err e) (no_value_unique s w u n here) ∙ sym also
types_one rest a b (read.types_wrong s x w n is) (read.types_asked t y v r also) =
    absurd (no_value_or_value s w (data_of v) n (subst (λ (z : List ℕ). IsReadAs z (data_of v)) (behind_one rest t s y x) r))
types_one rest a b (read.types_asked s x v r is) (read.types_short h also) = absurd (h s x)
types_one rest a b (read.types_asked s x v r is) (read.types_wrong t y w n also) =
    absurd (no_value_or_value t w (data_of v) n (subst (λ (z : List ℕ). IsReadAs z (data_of v)) (behind_one rest s t x y) r))
types_one rest a b (read.types_asked s x v r is) (read.types_asked t y u m also) =
    let here : IsReadAs s (data_of u) = subst (λ (z : List ℕ). IsReadAs z (data_of u)) (behind_one rest t s y x) m in
    is ∙ ap (λ (e : Value). Ok (line.Types e)) (read_unique s v u r here) ∙ sym also

-- ---- a count of turns, or nothing

count_one : (n m : ℕ) (w v : List ℕ) → IsCount n → IsCount m → decimal n ≡ w → decimal m ≡ v → w ≡ v → n ≡ m
count_one n m w v i j is also same = decimal_injective n m (omega (arith, i.1)) (omega (arith, j.1)) (is ∙ same ∙ sym also)

run_one : (rest : List ℕ) (a b : Answer) → ReadsRun rest a → ReadsRun rest b → a ≡ b
run_one rest a b (read.run_too_many s h is) (read.run_too_many t i also) = is ∙ sym also
run_one rest a b (read.run_too_many s h is) (read.run_no_count w l n also) = absurd (h w l)
run_one rest a b (read.run_too_many s h is) (read.run_whole t also) = absurd (s t)
run_one rest a b (read.run_too_many s h is) (read.run_counted w l n i d also) = absurd (h w l)
run_one rest a b (read.run_no_count w l n is) (read.run_too_many s h also) = absurd (h w l)
run_one rest a b (read.run_no_count w l n is) (read.run_no_count v k m also) = is ∙ sym also
run_one rest a b (read.run_no_count w l n is) (read.run_whole t also) = absurd (lone_begins rest w t l)
run_one rest a b (read.run_no_count w l n is) (read.run_counted v k m i d also) = absurd (n m i (d ∙ lone_unique rest v w k l))
run_one rest a b (read.run_whole s is) (read.run_too_many t h also) = absurd (t s)
run_one rest a b (read.run_whole s is) (read.run_no_count w l n also) = absurd (lone_begins rest w s l)
run_one rest a b (read.run_whole s is) (read.run_whole t also) = is ∙ sym also
run_one rest a b (read.run_whole s is) (read.run_counted w l n i d also) = absurd (lone_begins rest w s l)
run_one rest a b (read.run_counted w l n i d is) (read.run_too_many s h also) = absurd (h w l)
run_one rest a b (read.run_counted w l n i d is) (read.run_no_count v k m also) = absurd (m n i (d ∙ lone_unique rest w v l k))
run_one rest a b (read.run_counted w l n i d is) (read.run_whole s also) = absurd (lone_begins rest w s l)
run_one rest a b (read.run_counted w l n i d is) (read.run_counted v k m j e also) =
    is ∙ ap (λ (x : ℕ). Ok (line.Run (Some x))) (count_one n m w v i j d e (lone_unique rest w v l k)) ∙ sym also

-- ---- a stack's name, and a body

body_one : (verb : BodyVerb) (rest : List ℕ) (a b : Answer) → ReadsBody verb rest a → ReadsBody verb rest b → a ≡ b
body_one verb rest a b (read.body_short h is) (read.body_short i also) = is ∙ sym also
body_one verb rest a b (read.body_short h is) (read.body_unnamed s t x n also) = absurd (h s t x)
body_one verb rest a b (read.body_short h is) (read.body_wrong s t x n w f also) = absurd (h s t x)
body_one verb rest a b (read.body_short h is) (read.body_asked s t x n d g also) = absurd (h s t x)
body_one verb rest a b (read.body_unnamed s t x n is) (read.body_short h also) = absurd (h s t x)
body_one verb rest a b (read.body_unnamed s t x n is) (read.body_unnamed u v y m also) = is ∙ sym also
body_one verb rest a b (read.body_unnamed s t x n is) (read.body_wrong u v y m w f also) =
    absurd (n (subst IsStackName (parted_unique rest u v s t y x).0 m))
body_one verb rest a b (read.body_unnamed s t x n is) (read.body_asked u v y m d g also) =
    absurd (n (subst IsStackName (parted_unique rest u v s t y x).0 m))
body_one verb rest a b (read.body_wrong s t x n w f is) (read.body_short h also) = absurd (h s t x)
body_one verb rest a b (read.body_wrong s t x n w f is) (read.body_unnamed u v y m also) =
    absurd (m (subst IsStackName (parted_unique rest s t u v x y).0 n))
body_one verb rest a b (read.body_wrong s t x n w f is) (read.body_wrong u v y m e g also) =
    let here : IsNoBody t e = subst (λ (z : List ℕ). IsNoBody z e) (parted_unique rest u v s t y x).1 g in
    is ∙ ap (λ (z : Misread). Err z) (no_body_unique t w e f here) ∙ sym also
body_one verb rest a b (read.body_wrong s t x n w f is) (read.body_asked u v y m d g also) =
    absurd (no_body_or_body t w d f (subst (λ (z : List ℕ). IsBodyText z d) (parted_unique rest u v s t y x).1 g))
body_one verb rest a b (read.body_asked s t x n d g is) (read.body_short h also) = absurd (h s t x)
body_one verb rest a b (read.body_asked s t x n d g is) (read.body_unnamed u v y m also) =
    absurd (m (subst IsStackName (parted_unique rest s t u v x y).0 n))
body_one verb rest a b (read.body_asked s t x n d g is) (read.body_wrong u v y m w f also) =
    absurd (no_body_or_body v w d f (subst (λ (z : List ℕ). IsBodyText z d) (parted_unique rest s t u v x y).1 g))
body_one verb rest a b (read.body_asked s t x n d g is) (read.body_asked u v y m e f also) =
    let same = parted_unique rest s t u v x y in
    let here : IsBodyText t e = subst (λ (z : List ℕ). IsBodyText z e) (sym same.1) f in
    is ∙ ap (λ (z : List ℕ). Ok (body_line verb z d)) same.0 ∙ ap (λ (z : BodyData). Ok (body_line verb u z)) (body_unique t d e g here) ∙ sym also

-- ---- the line whole

behind_word : (h : Head) (rest : List ℕ) (a b : Answer) → ReadsBehind h rest a → ReadsBehind h rest b → a ≡ b
behind_word (head.WithBody verb) rest a b x y = body_one verb rest a b x y
behind_word (head.WithStack verb) rest a b x y = stack_one verb rest a b x y
behind_word (head.WithEngine verb) rest a b x y = engine_one verb rest a b x y
behind_word (head.Alone verb) rest a b x y = alone_one verb rest a b x y
behind_word head.Types rest a b x y = types_one rest a b x y
behind_word head.Run rest a b x y = run_one rest a b x y
behind_word head.Unknown rest a b x y = x ∙ sym y

words_one : (word rest : List ℕ) (a b : Answer) → ReadsWords word rest a → ReadsWords word rest b → a ≡ b
words_one word rest a b (read.comment c is) (read.comment d also) = is ∙ sym also
words_one word rest a b (read.comment c is) (read.headed n y) = absurd (n c)
words_one word rest a b (read.headed n x) (read.comment c also) = absurd (n c)
words_one word rest a b (read.headed n x) (read.headed m y) = behind_word (head_of word) rest a b x y

pub read_one : (text : List ℕ) (a b : Answer) → Reads text a → Reads text b → a ≡ b
read_one text a b (read.no_text n is) (read.no_text m also) = is ∙ sym also
read_one text a b (read.no_text n is) (read.no_word u s also) = absurd (n u)
read_one text a b (read.no_text n is) (read.worded u w r x y) = absurd (n u)
read_one text a b (read.no_word u s is) (read.no_text n also) = absurd (n u)
read_one text a b (read.no_word u s is) (read.no_word v t also) = is ∙ sym also
read_one text a b (read.no_word u s is) (read.worded v w r x y) = absurd (no_word text w r x s)
read_one text a b (read.worded u w r x y) (read.no_text n also) = absurd (n u)
read_one text a b (read.worded u w r x y) (read.no_word v s also) = absurd (no_word text w r x s)
read_one text a b (read.worded u w r x y) (read.worded v z q i j) =
    let same = word_unique text z w q r i x in
    let here = subst (λ (t : List ℕ). ReadsWords w t b) same.1 (subst (λ (t : List ℕ). ReadsWords t q b) same.0 j) in
    words_one w r a b y here
