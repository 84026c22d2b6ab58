mod LauncherLaws
