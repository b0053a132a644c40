-- A standing state is kept, group by group, and so every run has the main theorem.
use Rattle.history_laws.specs.headline.Kept.{StandingKept}
use Rattle.graph_laws.proofs.covers.Below.{links_by_commands}
use Rattle.graph_laws.proofs.covers.Below.{links_by_engines}
use Rattle.graph_laws.proofs.covers.Below.{links_by_moves}
use Rattle.graph_laws.proofs.covers.Below.{graphs_laid}
use Rattle.graph_laws.proofs.covers.Below.{graphs_kept}
use Rattle.graph_laws.proofs.covers.Below.{graphs_moved}
use Rattle.history_laws.proofs.frames.Stands.{stand_by_commands, stand_by_engines, stand_by_moves}
use Rattle.history_laws.proofs.rows.EachRow.{each_row_commands, each_row_engines, each_row_moves}
use Rattle.graph_laws.proofs.covers.Below.{letters_laid}
use Rattle.graph_laws.proofs.covers.Below.{letters_kept}
use Rattle.graph_laws.proofs.covers.Below.{letters_moved}
use Rattle.graph_laws.proofs.covers.Below.{jobs_laid}
use Rattle.graph_laws.proofs.covers.Below.{jobs_kept}
use Rattle.graph_laws.proofs.covers.Below.{jobs_moved}
use Rattle.graph_laws.proofs.fits.Below.{marks_by_engines, pasts_by_engines}
use Rattle.graph_laws.proofs.fits.Below.{marks_by_moves}
use Rattle.graph_laws.proofs.fits.Below.{marks_by_commands, pasts_by_commands}
use Rattle.graph_laws.proofs.fits.Below.{pasts_by_moves}
use Rattle.history_laws.proofs.headline.MainTheorem.{standing_has_headline, standing_keeps_sound, steps_keep_runs}
use Rattle.history_laws.proofs.headline.Restarts.{empty_by, restarts_by}
use Rattle.graph_laws.proofs.fits.Laid.{fit_by_commands}
use Rattle.graph_laws.proofs.fits.Own.{fit_by_engines}
use Rattle.graph_laws.proofs.covers.Commands.{covers_laid}
use Rattle.graph_laws.proofs.covers.Engines.{covers_kept}
use Rattle.graph_laws.proofs.covers.Moves.{covers_moved}
use Rattle.graph_laws.proofs.fits.Kept.{fit_by_moves}
use Rattle.step_relation.specs.Laws.{NothingKeptIsSound, RestartsKeepSound, SoundOpeningsHaveHeadline, SoundOpeningsStaySound, StepsKeepSound}

pub standing_kept : StandingKept
standing_kept = record {
  moves = λ judges s e given failed_ cs es x move tied. record {
    links = links_by_moves judges s e given failed_ cs es x move tied;
    shape = record {
      stand = stand_by_moves judges s e given failed_ cs es x move tied;
      graphs = graphs_moved judges s e given failed_ cs es x move tied;
      rows = fit_by_moves judges s e given failed_ cs es x move tied;
      each_row = each_row_moves judges s e given failed_ cs es x move tied;
      jobs = jobs_moved judges s e given failed_ cs es x move tied;
      letters = letters_moved judges s e given failed_ cs es x move tied;
    };
    marks = marks_by_moves judges s e given failed_ cs es x move tied;
    covered = covers_moved judges s e given failed_ cs es x move tied;
    pasts = pasts_by_moves judges s e given failed_ cs es x move tied;
  };
  commands = λ s name items it k x ordered. record {
    links = links_by_commands s name items it k x ordered;
    shape = record {
      stand = stand_by_commands s name items it k x ordered;
      graphs = graphs_laid s name items it k x ordered;
      rows = fit_by_commands s name items it k x ordered;
      each_row = each_row_commands s name items it k x ordered;
      jobs = jobs_laid s name items it k x ordered;
      letters = letters_laid s name items it k x ordered;
    };
    marks = marks_by_commands s name items it k x ordered;
    covered = covers_laid s name items it k x ordered;
    pasts = pasts_by_commands s name items it k x ordered;
  };
  engines = record {
    stop = λ s e x live. record {
      links = links_by_engines.stop s e x live;
      shape = record {
        stand = stand_by_engines.stop s e x live;
        graphs = graphs_kept.stop s e x live;
        rows = fit_by_engines.stop s e x live;
        each_row = each_row_engines.stop s e x live;
        jobs = jobs_kept.stop s e x live;
        letters = letters_kept.stop s e x live;
      };
      marks = marks_by_engines.stop s e x live;
      covered = covers_kept.stop s e x live;
      pasts = pasts_by_engines.stop s e x live;
    };
    enlist = λ s x. record {
      links = links_by_engines.enlist s x;
      shape = record {
        stand = stand_by_engines.enlist s x;
        graphs = graphs_kept.enlist s x;
        rows = fit_by_engines.enlist s x;
        each_row = each_row_engines.enlist s x;
        jobs = jobs_kept.enlist s x;
        letters = letters_kept.enlist s x;
      };
      marks = marks_by_engines.enlist s x;
      covered = covers_kept.enlist s x;
      pasts = pasts_by_engines.enlist s x;
    };
    restart = λ s count x. record {
      links = links_by_engines.restart s count x;
      shape = record {
        stand = stand_by_engines.restart s count x;
        graphs = graphs_kept.restart s count x;
        rows = fit_by_engines.restart s count x;
        each_row = each_row_engines.restart s count x;
        jobs = jobs_kept.restart s count x;
        letters = letters_kept.restart s count x;
      };
      marks = marks_by_engines.restart s count x;
      covered = covers_kept.restart s count x;
      pasts = pasts_by_engines.restart s count x;
    };
  };
}

pub steps_sound : StepsKeepSound
steps_sound = standing_keeps_sound standing_kept

pub runs_sound : SoundOpeningsStaySound
runs_sound = steps_keep_runs steps_sound

pub runs_headline : SoundOpeningsHaveHeadline
runs_headline = standing_has_headline standing_kept

pub restarts_sound : RestartsKeepSound
restarts_sound = restarts_by steps_sound

pub empty_openings : NothingKeptIsSound
empty_openings = empty_by restarts_sound
