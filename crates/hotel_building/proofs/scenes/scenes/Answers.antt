-- The scenes: each line by computation, and each step of their buildings by what it needs.
use Rattle.hotel_nights.specs.FullNight.{nights_taken, first_day}
use Rattle.std.proofs.Common.{refl, lit≤, lit<, [], inl, inr}
use Rattle.std.specs.Str.{is_utf8, chars}
use lib.Utf8.{encode}
use Rattle.hotel_model.specs.{Answer.answer_to}
use Rattle.keycard_rules.specs.Draw.{draw_from}
use Rattle.hotel_model.specs.Scenes.Words.{may, a2, a3, b0, b1, DBL, bo, guest, add_room, reserve, check_in}
use Rattle.hotel_model.specs.Scenes.Words.{check_out, refit, reissue}
use Rattle.hotel_building.proofs.Opened.{opened, opened_but, words}
use Rattle.hotel_building.proofs.scenes.scenes.Goals as goal

pub returns-clause-late_log : goal.returns-clause-late_log
unfolding answer_to draw_from nights_taken first_day is_utf8 chars encode
returns-clause-late_log c = (
  refl,
  (
    (
      (
        (
          (
            (
              (
                (
                  (
                    (
                      opened,
                      (refl, (refl, lit< tt, (lit≤ tt, lit≤ tt))),
                    ),
                    (refl, (refl, lit< tt, (lit≤ tt, lit≤ tt)), inl (0, lit< tt, refl)),
                  ),
                  ((refl, [], check_out 1, refl, tt), tt),
                ),
                ((refl, [], reserve DBL (may 1) 2 bo, refl, (refl, lit< tt, lit≤ tt, lit≤ tt)), tt),
              ),
              ((refl, words a2, check_in 2 101, refl, lit< tt), tt),
            ),
            (refl, (refl, lit< tt, (lit≤ tt, lit≤ tt))),
          ),
          (refl, (refl, lit< tt, (lit≤ tt, lit≤ tt))),
        ),
        tt,
      ),
      tt,
    ),
    tt,
  ),
)

pub returns-clause-recoding : goal.returns-clause-recoding
unfolding answer_to draw_from nights_taken first_day is_utf8 chars encode
returns-clause-recoding c = (
  refl,
  (
    (
      (
        (
          (
            (
              (
                opened,
                ((refl, words a2, reissue 1, refl, lit< tt), tt),
              ),
              (refl, (refl, lit< tt, (lit≤ tt, lit≤ tt))),
            ),
            ((refl, lit< tt, (lit≤ tt, lit≤ tt)), inr (0, lit< tt, refl)),
          ),
          ((refl, lit< tt, (lit≤ tt, lit≤ tt)), inl refl),
        ),
        (refl, (refl, lit< tt, (lit≤ tt, lit≤ tt))),
      ),
      tt,
    ),
    tt,
  ),
)

pub returns-clause-replaced_lock : goal.returns-clause-replaced_lock
unfolding answer_to draw_from nights_taken first_day is_utf8 chars encode
returns-clause-replaced_lock c = (
  refl,
  (
    (
      (
        (
          (
            (
              (
                (
                  (
                    (
                      opened,
                      (refl, (refl, lit< tt, (lit≤ tt, lit≤ tt))),
                    ),
                    tt,
                  ),
                  (0, lit< tt, refl),
                ),
                ((refl, [], check_out 1, refl, tt), tt),
              ),
              ((refl, words a2, refit 101, refl, lit< tt), refl),
            ),
            (refl, (refl, lit< tt, (lit≤ tt, lit≤ tt))),
          ),
          ((refl, [], reserve DBL (may 1) 2 bo, refl, (refl, lit< tt, lit≤ tt, lit≤ tt)), tt),
        ),
        ((refl, words a3, check_in 2 101, refl, lit< tt), tt),
      ),
      (refl, (refl, lit< tt, (lit≤ tt, lit≤ tt))),
    ),
    tt,
  ),
)

pub returns-clause-bad_door : goal.returns-clause-bad_door
unfolding answer_to draw_from nights_taken first_day is_utf8 chars encode
returns-clause-bad_door c = (
  refl,
  (
    (
      (
        (
          (
            (
              (
                (
                  (
                    (
                      (
                        (
                          (
                            (
                              opened_but,
                              ((refl, words a2, add_room 102 DBL, refl, ((lit≤ tt, lit≤ tt), lit< tt)), tt),
                            ),
                            ((refl, [], reserve DBL (may 1) 2 bo, refl, (refl, lit< tt, lit≤ tt, lit≤ tt)), tt),
                          ),
                          ((refl, words a3, check_in 2 102, refl, lit< tt), tt),
                        ),
                        tt,
                      ),
                      (refl, (refl, lit< tt, (lit≤ tt, lit≤ tt))),
                    ),
                    ([], refl, ((lit≤ tt, lit≤ tt), (lit≤ tt, lit≤ tt), (lit≤ tt, lit≤ tt))),
                  ),
                  (refl, (refl, lit< tt, (lit≤ tt, lit≤ tt))),
                ),
                refl,
              ),
              ((refl, [], check_out 1, refl, tt), tt),
            ),
            ((refl, words b0, refit 101, refl, lit< tt), refl),
          ),
          ((refl, [], reserve DBL (may 1) 2 guest, refl, (refl, lit< tt, lit≤ tt, lit≤ tt)), tt),
        ),
        ((refl, words b1, check_in 3 101, refl, lit< tt), tt),
      ),
      (refl, (refl, lit< tt, (lit≤ tt, lit≤ tt))),
    ),
    refl,
  ),
)
