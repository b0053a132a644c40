-- What values, objects and conditions look up, by what stands one level further.
use Rattle.std.proofs.Common.{◌≡◌, ◌∙◌, ℕ, suc, List, Bool, Some, None, refl, sym, ap}
use Rattle.heat_value.specs.Data.{Data, fields, Members}
use Rattle.eval_words.specs.Evaluation.{Leveled, replaced, sole_of}
use Rattle.eval_words.specs.Looks.{Looks, LeveledReading, replaced_reads, call_reads}
use Rattle.eval_words.specs.Names.{function_of, condition_function_of, is_formed, is_condition_formed, named_in}
use Rattle.eval_words.specs.Reads.{members_reads}
use Rattle.eval_words.specs.Scenes.{SceneData, scene_data}
use Rattle.eval_words.specs.declared.function.Function.{Function}
use Rattle.hot_eval.specs.Answers.{again, levels, inside_again}
use Rattle.hot_eval.specs.Noted.{reads_again, reads_inside_again, value_looks, members_looks, condition_looks}
use Rattle.hot_eval.specs.Noted.{sole_looks, sole_reads_of}
use Rattle.hot_eval.specs.declared.setting.Setting.{Setting}
use Rattle.hot_eval.proofs.Reading.{object_looks, object_plain_looks, condition_calls_looks}

-- the same with what is equal to each
seen_there : {D B : Type 0} (f : Leveled → LeveledReading → SceneData → D → B) (A X : Leveled) (R Q : LeveledReading)
    (S T : SceneData) (d e : D) → X ≡ A → Q ≡ R → T ≡ S → e ≡ d → f A R S d ≡ f X Q T e
seen_there f A X R Q S T d e a r s h =
    sym (ap (λ (x : Leveled). f x Q T e) a ∙ ap (λ (x : LeveledReading). f A x T e) r ∙ ap (λ (x : SceneData). f A R x e) s
    ∙ ap (f A R S) h)

module _ (set inner : Setting) (scene : scene_data inner.scene ≡ scene_data set.scene) (same : again inner ≡ again set)
    (reads : reads_again inner ≡ reads_again set) (less : levels set ≡ suc (levels inner)) (n : ℕ) where
  pub members_inside : (ms : Members) → None ≡ named_in function_of ms
      → value_looks set (fields ms) n ≡ members_looks inner ms n
  members_inside ms is =
      object_plain_looks (again set) (reads_again set) (scene_data set.scene) (levels set) (levels inner) n less ms is
      ∙ seen_there (λ X Q T (l : Members). members_reads X Q T (levels inner) l n) (again set) (again inner) (reads_again set)
      (reads_again inner) (scene_data set.scene) (scene_data inner.scene) ms ms same reads scene refl

  abbrev call_inside : Function → List ℕ → Data → Bool → Looks
  call_inside f k d b =
      call_reads (inside_again inner) (reads_inside_again inner) f b
      (sole_of (again inner) (scene_data inner.scene) (levels inner) k d) (sole_looks inner d) n

  moved : (f : Function) (k : List ℕ) (d : Data) (formed b : Bool) → b ≡ formed
      → call_reads (replaced (again set) (levels inner)) (replaced_reads (reads_again set) (levels inner)) f formed
      (sole_of (again set) (scene_data set.scene) (levels inner) k d)
      (sole_reads_of (again set) (reads_again set) (scene_data set.scene) (levels inner) d) n
      ≡ call_inside f k d b
  moved f k d formed b is =
      seen_there (λ X Q T (b : Bool). call_reads (replaced X (levels inner)) (replaced_reads Q (levels inner)) f b
      (sole_of X T (levels inner) k d) (sole_reads_of X Q T (levels inner) d) n) (again set) (again inner) (reads_again set)
      (reads_again inner) (scene_data set.scene) (scene_data inner.scene) formed b same reads scene is

  pub calls_inside : (ms : Members) (k : List ℕ) (d : Data) (f : Function) (b : Bool)
      → Some (k, d, f) ≡ named_in function_of ms → b ≡ is_formed k d → value_looks set (fields ms) n ≡ call_inside f k d b
  calls_inside ms k d f b named is =
      object_looks (again set) (reads_again set) (scene_data set.scene) (levels set) (levels inner) n less ms (k, d, f) named
      ∙ moved f k d (is_formed k d) b is

  pub condition_calls_inside : (ms : Members) (k : List ℕ) (d : Data) (f : Function) (b : Bool)
      → Some (k, d, f) ≡ named_in condition_function_of ms → b ≡ is_condition_formed k d
      → condition_looks set (fields ms) n ≡ call_inside f k d b
  condition_calls_inside ms k d f b named is =
      condition_calls_looks (again set) (reads_again set) (scene_data set.scene) (levels set) (levels inner) n less ms (k, d, f)
      named
      ∙ moved f k d (is_condition_formed k d) b is
