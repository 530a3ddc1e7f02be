-- What a process remembers of a node: a word read stays a good word, and what was seen while the word was clean holds for as long as it is.
use mathlib.Core.Path.{◌≡◌, refl, sym, ◌∙◌}
use Prim.Native.Nat.{ℕ, zero, suc, ◌*◌, ◌≤◌}
use native.Mathlib.Decide.{ℕ_discrete}
use native.Mathlib.Omega.{arith}
use Rattle.history.specs.View.{View, In, route}
use Rattle.history.specs.Shared.{Shared}
use Rattle.history.specs.Change.{rank}
use Rattle.history.specs.Run.{Step}
use Rattle.history.proofs.Route.{route_slot}
use Rattle.history.proofs.Invariant.{Word, Shape, Sound}
use Rattle.history.proofs.Touch.{older_at, child_used}
use Rattle.history.proofs.Static.{word_more}
use Rattle.history.proofs.Keep.{Touched, touched}
use Rattle.history.proofs.Lasting.{grown}
use Rattle.history.proofs.Pairs.{full_count}

-- node n's own keys and children are as they were, and so are all tags
pub record SameNode (k u : ℕ) (t t' : View) (n : ℕ) : Type 0 where
  pub tag_same : (a : ℕ) → In u a → t'.tag a ≡ t.tag a
  pub key_same : t'.key n ≡ t.key n
  pub kids_same : (j : ℕ) → In k j → t'.child n j ≡ t.child n j

-- Q was seen of node n while its pending was clean with record c
pub record Seen (t : View) (n c : ℕ) (Q : Type 0) : Type 0 where
  pub age : rank (4 * c) ≤ rank (t.pend n)
  pub holds : t.pend n ≡ 4 * c → Q

pub seen_more : {t : View} {n c : ℕ} {Q Q' : Type 0} → Seen t n c Q → (Q → Q') → Seen t n c Q'
seen_more s f = record { age = s.age; holds = λ e. f (s.holds e) }

module _ {k : ℕ} {S S' : Shared} (hk : 2 ≤ k) (I : Sound k S) where
  -- a clean word does not come back
  pub seen_stays : {n c : ℕ} {Q Q' : Type 0} → Step k S S' → In S.nodes n → (SameNode k S.nodes S.view S'.view n → Q → Q')
      → Seen S.view n c Q → Seen S'.view n c Q'
  seen_stays {n} {c} {Q} {Q'} step h f s = go (touched hk I step)
    where
      go : Touched k S S' → Seen S'.view n c Q'
      go w = record {
        age = omega (arith, s.age, older_at (omega arith) I.inv w.touch n h);
        holds = λ e. at e (ℕ_discrete n w.at);
      }
        where
          at : S'.view.pend n ≡ 4 * c → Dec (n ≡ w.at) → Q'
          at e (yes z) = absurd (w.touch.unclean (rw z at h) c (rw z at s.age) (rw z at e))
          at e (no z) =
              f (record {
                tag_same = w.touch.tag_same;
                key_same = w.touch.key_same n h;
                kids_same = λ j i. w.touch.child_same n j h i
                    z;
              })
              (s.holds (sym (w.touch.pend_same n h z) ∙ e))

  -- a word read, whatever its kind, names a record of that kind for ever
  pub word_stays : {n w : ℕ} → Step k S S' → Word S.records S.rec n w → Word S'.records S'.rec n w
  word_stays c a = let g = grown hk I c in word_more g.records_more g.rec_same a

-- what is seen of a node, carried over: its child for a key
pub child_like : {k u : ℕ} {t t' : View} {n : ℕ} (x v : ℕ) → 1 ≤ k → SameNode k u t t' n → t.child n (route k (t.key n) x) ≡ v
    → t'.child n (route k (t'.key n) x) ≡ v
child_like {k} {u} {t} {t'} {n} x v hk s e = rw s.key_same (s.kids_same (route k (t.key n) x) (route_slot k _ hk x) ∙ e)

-- and how many of the first d are not empty
pub count_like : {k u : ℕ} {t t' : View} {n : ℕ} (d : ℕ) → Shape k u t → In u n → t.tag n ≡ k → d ≤ k → SameNode k u t t' n
    → full_count t' n d ≡ full_count t n d
unfolding full_count
count_like zero sh h q l s = refl
count_like {k} {u} {t} {t'} {n} (suc d) sh h q l s =
    let e : t'.tag (t'.child n (suc d)) ≡ t.tag (t.child n (suc d)) =
    rw (s.kids_same (suc d) (omega arith)) (s.tag_same (t.child n (suc d)) (child_used sh n (suc d) h q (omega arith))) in
    cc (count_like d sh h q (omega arith) s)

-- so what is remembered stays: the child for a key, and the count of children that are not empty
module _ {k : ℕ} {S S' : Shared} (hk : 2 ≤ k) (I : Sound k S) (c : Step k S S') where
  pub seen_child : {n e : ℕ} (x v : ℕ) → In S.nodes n → Seen S.view n e (S.view.child n (route k (S.view.key n) x) ≡ v)
      → Seen S'.view n e (S'.view.child n (route k (S'.view.key n) x) ≡ v)
  seen_child x v h s = seen_stays hk I c h (child_like x v (omega arith)) s

  pub seen_count : {n e : ℕ} (d m : ℕ) → In S.nodes n → S.view.tag n ≡ k → d ≤ k → Seen S.view n e (full_count S.view n d ≡ m)
      → Seen S'.view n e (full_count S'.view n d ≡ m)
  seen_count d m h q l s = seen_stays hk I c h (λ w z. count_like d I.inv.shape h q l w ∙ z) s
