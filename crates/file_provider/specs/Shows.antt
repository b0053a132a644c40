-- What a cloud of files shows: all that its inventory does.
use Rattle.provider.specs.Cloud.{Cloud}
use Rattle.sim_cloud.specs.Simulated.{shown_by}
use Rattle.file_provider.specs.declared.file_cloud.FileCloud.{FileCloud}

abbrev pub cloud_of : FileCloud → Cloud
cloud_of c = shown_by c.all
